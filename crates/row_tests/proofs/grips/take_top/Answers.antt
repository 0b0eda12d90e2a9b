use Rattle.row_tests.proofs.Taking.{takes_top, top_only}
use Rattle.row_tests.proofs.grips.take_top.Goals as goal

pub take_child-requires-clause-only : goal.take_child-requires-clause-only
take_child-requires-clause-only g c = top_only c.args.pass.now c.lock.new.pass c.grip_of.new.pass 0 c.in_ok-top.top.row c.requires.free c.lock.ensures c.in_ok-top.ensures.grip.1

pub returns : goal.returns
returns g c = takes_top c.args.rows.now.rows c.args.pass.now c.lock.new.pass c.grip_of.new.pass c.take_child.new.pass c.in_ok-top.top c.in_ok-root.root _ c.lock.ensures c.in_ok-top.ensures.grip.1 c.in_ok-top.ensures.grip.0 c.in_ok-root.ensures
