use Rattle.std.proofs.Common.{rules, refl, sym, subst, ap, ◌∙◌, ℕ}
use mathlib.Core.Option.{none}
use Rattle.atomic_table.specs.Table.{step}
use Rattle.snap_stamp.specs.Layout.{word_at}
use Rattle.snap_stamp.specs.declared.layout.Field.{Field}
use Rattle.snap_steps.specs.Asking.{about_of, Permits}
use Rattle.snap_steps.specs.Steps.Rotating.{lowered, lowered_stored}
use Rattle.snap_steps.specs.Steps.Told.{Sat}
use Rattle.snap_steps.specs.declared.view.View.{View}
use Rattle.snap_steps.proofs.Keeps.Rotating.{lowers_link}
use Rattle.snap_steps.proofs.Passing.{stays_pass, same_pairs}
use Rattle.snap_steps.proofs.rotating.link_lowered.Goals as goal

pub store-requires-clause-step : goal.store-requires-clause-step
store-requires-clause-step c =
    subst (λ (y : ℕ). Permits c.args.rows.now c.pass.inside.seat.id c.pass.inside.seat.me (word_at c.args.row c.link.result) (λ _. y) (λ _. lowered_stored (step c.args.rows.now.table.slots (word_at c.args.row c.link.result) y 0 none) c.pass.inside.seat.me 0)) (sym c.number.ensures)
    (subst (λ (f : Field). Permits c.args.rows.now c.pass.inside.seat.id c.pass.inside.seat.me (word_at c.args.row f) (λ _. c.args.middle) (λ _. lowered_stored (step c.args.rows.now.table.slots (word_at c.args.row f) c.args.middle 0 none) c.pass.inside.seat.me 0)) (sym c.link.ensures)
    (lowers_link (about_of c.args.rows.now) c.args.rows.now.table.slots c.pass.inside.seat.id c.pass.inside.seat.me c.args.parent c.args.parent_side c.args.row c.args.side c.args.raised c.args.middle c.requires.row (search rules) (search rules)))

pub invariant_of-pass : goal.invariant_of-pass
invariant_of-pass c =
    let m = c.pass.inside.seat.me in
    let of : ℕ → View = lowered m.0 c.args.parent c.args.parent_side c.args.row c.args.side c.args.raised in
    let v : View = of c.args.middle in
    stays_pass m c.store.new.seat.me v c.pass.inside.who c.pass.inside.uses c.pass.inside.added c.pass.inside.taken c.pass.inside.added c.pass.inside.taken c.pass.inside.owed c.pass.inside.owed c.pass.invariant.owed_is
    c.pass.invariant (c.store.ensures.step c.args.parent c.args.row c.args.raised c.args.parent_side c.args.side (search rules) ∙ ap (λ (y : ℕ). let n : Sat = (of y, m.1) in n) c.number.ensures) refl refl refl refl (same_pairs m.0 v c.pass.inside.added c.pass.inside.taken refl refl c.pass.invariant.pairs)
