use Rattle.std.proofs.Common.{rules, ap, sym, subst, ◌∙◌}
use Rattle.snap_steps.proofs.Histories.{longer_length, AreShorter}
use Rattle.snap_steps.specs.Steps.Told.{Sat}
use Rattle.snap_steps.proofs.Keeps.Seats.{learns, makes_sure}
use Rattle.snap_steps.proofs.seats.take_back.Goals as goal

pub join_seat-requires : goal.join_seat-requires
join_seat-requires c =
    let u = c.view.inside.seat.me.0 in
    (search rules, search rules, c.view.invariant.free, search rules, learns c.rows.inside.table.shared.key c.pass.inside.seat.id c.pass.inside.seat.me.0 c.view.inside.seat.id u u.base.history u.base u.outworn c.pass.invariant.pass.passing c.view.invariant.viewing)

pub load-requires : goal.load-requires
load-requires c =
    let e = c.join_seat.ensures.2 in
    let long = longer_length c.pass.inside.seat.me.0.seen c.view.inside.seat.me.0.seen in
    (search rules, search rules, makes_sure c.rows.inside.table.shared.key _ c.join_seat.new.seat.id c.join_seat.new.seat.me (ap (λ (m : Sat). m.0.role) e ∙ c.pass.invariant.pass.passing) (subst (λ (m : Sat). AreShorter m.0.joined m.0.seen) (sym e) (long.0, (long.1, tt))))
