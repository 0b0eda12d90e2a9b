use Rattle.snap_repair.proofs.Raising.{heightens, raises_looks}
use Rattle.snap_repair.proofs.settling.set_height.Goals as goal

pub store_height-requires-clause-aims : goal.store_height-requires-clause-aims
store_height-requires-clause-aims c = raises_looks c.args.pass.now c.look_at-look.new.pass c.args.edge.now.parent.row c.args.edge.now.child.row c.look_at-look.ensures.looks c.requires.aims

pub returns : goal.returns
returns c = heightens c.args.pass.now c.look_at-look.new.pass c.store_height.new.pass c.args.edge.now.parent c.args.edge.now.child c.height_due-height.result c.look_at-look.ensures.looks c.store_height.ensures
