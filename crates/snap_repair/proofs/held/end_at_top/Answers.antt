use Rattle.std.proofs.Common.{ap, refl}
use Rattle.snap_repair.proofs.{Lifting.mends_itself, Lowering.mends_locked}
use Rattle.snap_prelude.specs.{times}
use Rattle.snap_repair.proofs.held.end_at_top.Goals as goal

pub returns : goal.returns
returns g c =
    let a = c.args.pass.now in mends_locked a a c.lock.new.pass c.at_top.new.pass c.unlock.new.pass c.args.end.now.row (mends_itself a) refl (ap (times c.args.end.now.row) c.requires.free) c.lock.ensures c.at_top.ensures c.unlock.ensures
