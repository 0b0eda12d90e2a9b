use Rattle.row_tests.proofs.Taking.{takes_edge}
use Rattle.row_tests.proofs.grips.take_edge.Goals as goal

pub returns : goal.returns
returns g c = takes_edge c.args.rows.now.rows c.args.pass.now c.take_top.new.pass c.take_child.new.pass c.in_ok-edge.edge c.in_ok-row.row c.args.side c.in_ok-edge.ensures c.in_ok-row.ensures
