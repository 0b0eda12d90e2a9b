use Rattle.std.proofs.Common.{ap, refl}
use Rattle.snap_repair.proofs.{Lifting.mends_itself, Lowering.tries_locked}
use Rattle.snap_prelude.specs.{times}
use Rattle.snap_repair.proofs.repairing.take_rows.Goals as goal

pub returns : goal.returns
returns g c =
    let a = c.args.pass.now in tries_locked c.args.rows.now.rows a a c.lock.new.pass c.at_parent-why.new.pass c.unlock.new.pass c.args.end.now.above c.at_parent-why.result (mends_itself a) refl (ap (times c.args.end.now.above) c.requires.free) c.lock.ensures c.at_parent-why.ensures c.unlock.ensures
