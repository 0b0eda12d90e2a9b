use Rattle.snap_repair.proofs.Lifting.{lifts_after, unlinks_lifts}
use Rattle.snap_repair.proofs.tilting.drop_lowered.Goals as goal

pub returns-then-is_routing-clause-keeps : goal.returns-then-is_routing-clause-keeps
returns-then-is_routing-clause-keeps c = unlinks_lifts c.args.pass.now c.look_at-look.new.pass c.unlink_child.new.pass c.args.edge.now.parent c.args.edge.now.child c.args.edge.now.side c.only_child-only.result c.requires.mending.whole c.look_at-look.ensures.looks c.unlink_child.ensures

pub returns-clause-keeps : goal.returns-clause-keeps
returns-clause-keeps c = lifts_after c.args.pass.now c.look_at-look.new.pass c.lift.new.pass c.args.edge.now.parent c.args.edge.now.child c.look_at-look.ensures.looks c.lift.ensures.keeps
