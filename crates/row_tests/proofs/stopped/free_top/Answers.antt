use Rattle.std.proofs.Common.{false}
use Rattle.row_tests.proofs.Freeing.{root_left}
use Rattle.row_tests.proofs.stopped.free_top.Goals as goal

pub free_root-requires : goal.free_root-requires
free_root-requires g c = root_left c.args.rows.now c.args.pass.now c.unlock.new.pass false c.args.turn.now.row.row c.args.turn.now.raised.row c.requires c.unlock.ensures
