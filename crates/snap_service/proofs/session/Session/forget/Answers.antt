use Rattle.std.proofs.Common.{None, length, ap, arith}
use Rattle.snap_service.specs.Prelude.{SessionState}
use Rattle.snap_service.proofs.{Bridge.taken_within, Using.well_slot}
use Rattle.snap_service.proofs.session.Session.forget.Goals as goal

pub invariant_of-self : goal.invariant_of-self
invariant_of-self c =
    let within = taken_within c.args.self.now c.args.slot c.requires in
    let places = ap (λ (s : SessionState). length s.clones) c.self.view_is in
    well_slot _ c.args.slot None c.self.invariant (omega (arith, within, places, c.self.invariant.a_place_each)) tt
