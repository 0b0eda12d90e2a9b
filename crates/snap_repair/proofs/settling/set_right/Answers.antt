use Rattle.snap_repair.proofs.Lifting.{right_now}
use Rattle.snap_repair.proofs.settling.set_right.Goals as goal

pub returns : goal.returns
returns c = right_now c.args.pass.now c.store_height.new.pass c.args.edge.now.parent c.args.edge.now.child c.args.rows.now.rows c.args.look.now c.height_due-height.result c.requires.edge.apart c.requires.look c.height_due-height.ensures c.store_height.ensures
