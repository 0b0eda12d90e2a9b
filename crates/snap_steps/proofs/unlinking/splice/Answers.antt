use Rattle.std.proofs.Common.{rules, refl, sym, subst, ℕ}
use mathlib.Core.Option.{none}
use Rattle.atomic_table.specs.Table.{step}
use Rattle.snap_stamp.specs.Layout.{word_at}
use Rattle.snap_stamp.specs.declared.layout.Field.{Field}
use Rattle.snap_steps.specs.Asking.{about_of, Permits}
use Rattle.snap_steps.specs.Steps.Unlinking.{row_spliced, splice_stored}
use Rattle.snap_steps.specs.declared.view.View.{View}
use Rattle.snap_steps.proofs.Keeps.Unlinking.{splices}
use Rattle.snap_steps.proofs.Passing.{stays_pass, same_pairs}
use Rattle.snap_steps.proofs.unlinking.splice.Goals as goal

pub store-requires-clause-step : goal.store-requires-clause-step
store-requires-clause-step c =
    subst (λ (y : ℕ). Permits c.args.rows.now c.pass.inside.seat.id c.pass.inside.seat.me (word_at c.args.parent c.link.result) (λ _. y) (λ _. splice_stored (step c.args.rows.now.table.slots (word_at c.args.parent c.link.result) y 0 none) c.pass.inside.seat.me 0)) (sym c.number.ensures)
    (subst (λ (f : Field). Permits c.args.rows.now c.pass.inside.seat.id c.pass.inside.seat.me (word_at c.args.parent f) (λ _. c.args.only) (λ _. splice_stored (step c.args.rows.now.table.slots (word_at c.args.parent f) c.args.only 0 none) c.pass.inside.seat.me 0)) (sym c.link.ensures)
    (splices (about_of c.args.rows.now) c.args.rows.now.table.slots c.pass.inside.seat.id c.pass.inside.seat.me c.args.parent c.args.side c.args.row c.args.only c.requires.parent (search rules)))

pub invariant_of-pass : goal.invariant_of-pass
invariant_of-pass c =
    let m = c.pass.inside.seat.me in
    let v : View = row_spliced m.0 c.args.parent c.args.side c.args.only in
    stays_pass m c.store.new.seat.me v c.pass.inside.who c.pass.inside.uses c.pass.inside.added c.pass.inside.taken c.pass.inside.added c.pass.inside.taken c.pass.inside.owed c.pass.inside.owed c.pass.invariant.owed_is
    c.pass.invariant (c.store.ensures.step c.args.parent c.args.row c.args.only c.args.side (search rules)) refl refl refl refl (same_pairs m.0 v c.pass.inside.added c.pass.inside.taken refl refl c.pass.invariant.pairs)
