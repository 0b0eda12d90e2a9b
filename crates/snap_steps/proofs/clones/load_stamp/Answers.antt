use Rattle.std.proofs.Common.{refl, sym, subst, ap, ◌∙◌}
use Rattle.snap_steps.specs.Asking.{about_of}
use Rattle.snap_steps.specs.Steps.Clones.{stamp_noted, IsSeatOfClone, TellsCause}
use Rattle.snap_steps.specs.Clones.{Cloned}
use Rattle.snap_steps.specs.Copies.{with_stamp}
use Rattle.snap_steps.specs.Steps.Told.{Sat}
use Rattle.snap_steps.specs.declared.view.View.{View}
use Rattle.snap_steps.proofs.Copying.{seen_as}
use Rattle.snap_steps.proofs.Keeps.Clones.{loads_stamp}
use Rattle.snap_steps.proofs.clones.load_stamp.Goals as goal

pub load-requires-clause-step : goal.load-requires-clause-step
load-requires-clause-step c =
    loads_stamp (about_of c.args.rows.now) c.args.rows.now.table.slots c.seat.inside.seat.id c.seat.inside.seat.me c.args.row c.requires.row

pub invariant_of-seat : goal.invariant_of-seat
invariant_of-seat c =
    let t = c.load.ensures.step c.args.row refl in let i = c.seat.invariant in
    subst (λ (m : Sat). IsSeatOfClone m c.seat.inside.top) (sym t.0) (record { free = i.free; viewing = ap (λ (v : View). stamp_noted v c.args.row c.load.result) i.viewing; top_is = i.top_is; low = i.low })

pub returns-clause-seat : goal.returns-clause-seat
returns-clause-seat c =
    let t = c.load.ensures.step c.args.row refl in
    (λ i. seen_as (c.load.ensures.table i) (t.0 i) c.seat.inside.next) ∙ ap (λ (k : Cloned). with_stamp k c.args.row c.load.result) c.seat.view_is ∙ ap (with_stamp c.args.seat.now c.args.row) (sym c.of.ensures)

pub returns-clause-cause : goal.returns-clause-cause
returns-clause-cause c =
    let t = c.load.ensures.step c.args.row refl in
    subst (TellsCause c.args.seat.now.balance c.args.row) (sym c.of.ensures) (subst (λ (k : Cloned). TellsCause k.balance c.args.row c.load.result) c.seat.view_is t.1)
