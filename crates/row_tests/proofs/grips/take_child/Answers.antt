use Rattle.std.proofs.Common.{rules}
use Rattle.row_tests.proofs.Taking.{takes}
use Rattle.row_tests.proofs.grips.take_child.Goals as goal

pub returns : goal.returns
returns g c = takes c.args.rows.now.rows c.args.pass.now c.child_of-child.new.pass c.lock.new.pass c.grip_of.new.pass c.args.upper c.child_of-child.result c.args.parent.now c.in_ok-grip.grip c.args.side c.child_of-child.ensures.pass c.lock.ensures c.in_ok-grip.ensures.grip.1 c.in_ok-grip.ensures.grip.0 c.in_ok-grip.ensures.grip.2 c.requires.grip c.child_of-child.ensures.leads (search rules) (search rules) (search rules) c.child_of-child.ensures.low c.requires.on_right c.requires.only
