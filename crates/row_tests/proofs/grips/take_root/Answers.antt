use Rattle.std.proofs.Common.{rules}
use Rattle.row_tests.proofs.Taking.{may_unlink_root}
use Rattle.row_tests.proofs.grips.take_root.Goals as goal

pub returns : goal.returns
returns g c = may_unlink_root c.args.rows.now c.args.pass.now c.take_top.new.pass c.is_gone.new.pass c.in_ok-edge.edge c.requires.table c.requires.mending c.in_ok-edge.ensures c.is_gone.ensures.looks (c.is_gone.ensures.gone (search rules))
