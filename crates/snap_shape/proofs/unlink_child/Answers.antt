use Rattle.snap_shape.proofs.Shaping.{unlinks}
use Rattle.snap_shape.proofs.unlink_child.Goals as goal

pub returns : goal.returns
returns c = unlinks c.args.pass.now c.mark_unlinked.new.pass c.splice.new.pass c.args.edge.now.parent c.args.edge.now.child c.args.edge.now.side c.args.only c.mark_unlinked.ensures c.splice.ensures
