use Rattle.std.proofs.Common.{rules, refl, sym, subst, ap, ℕ, Some}
use mathlib.Core.Option.{none}
use Rattle.atomic_table.specs.Table.{step}
use Rattle.snap_stamp.specs.Layout.{word_at}
use Rattle.snap_stamp.specs.declared.layout.Field.TheVariants.{Stamp}
use Rattle.snap_steps.specs.Asking.{about_of, Permits}
use Rattle.snap_steps.specs.Roles.{is_live}
use Rattle.snap_steps.specs.Steps.Changes.{shrinking_stored, shrunk}
use Rattle.snap_steps.specs.declared.view.View.{View}
use Rattle.snap_steps.proofs.Keeps.Changes.{shrinks}
use Rattle.snap_steps.proofs.Passing.{stays_pass, same_pairs}
use Rattle.snap_steps.proofs.Tallies.{tells_key, with_covers}
use Rattle.snap_steps.proofs.changes.mark_shrinking.Goals as goal

pub store_told-requires-clause-step : goal.store_told-requires-clause-step
store_told-requires-clause-step c =
    subst (λ (y : ℕ). Permits c.args.rows.now c.pass.inside.seat.id c.pass.inside.seat.me (word_at c.args.row Stamp) (λ _. y) (λ _. shrinking_stored c.args.parent c.args.parent_side c.args.row c.args.side c.args.raised c.args.key (step c.args.rows.now.table.slots (word_at c.args.row Stamp) y 0 none) c.pass.inside.seat.me 0)) (sym c.begun-marked.ensures)
    (shrinks (about_of c.args.rows.now) c.args.rows.now.table.slots c.pass.inside.seat.id c.pass.inside.seat.me c.args.parent c.args.parent_side c.args.row c.args.side c.args.raised c.args.stamp c.args.key c.requires.row (ap is_live c.pass.invariant.pass.passing) (search rules) (search rules) (search rules) c.requires.count.0 c.requires.count.1 (search rules))

pub invariant_of-pass : goal.invariant_of-pass
invariant_of-pass c =
    let m = c.pass.inside.seat.me in
    let v : View = shrunk m.0 c.args.parent c.args.parent_side c.args.row c.args.side c.args.raised c.begun-marked.result c.args.key in
    stays_pass m c.store_told.new.seat.me v c.pass.inside.who c.pass.inside.uses c.pass.inside.added c.pass.inside.taken c.pass.inside.added c.pass.inside.taken c.pass.inside.owed (record { to_do = Some c.args.key; listed = c.with_row-listed.result })
    (tells_key (record { to_do = Some c.args.key; listed = c.with_row-listed.result }) v.debt c.args.key refl refl
    (with_covers c.pass.inside.owed.listed c.with_row-listed.result c.args.row c.begun-marked.result m.0.debt.list c.with_row-listed.ensures c.pass.invariant.owed_is.rows))
    c.pass.invariant c.store_told.ensures.step refl refl refl refl (same_pairs m.0 v c.pass.inside.added c.pass.inside.taken refl refl c.pass.invariant.pairs)
