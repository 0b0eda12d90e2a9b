use Rattle.std.proofs.Common.{rules, refl, sym, subst, None, ◌+◌, ◌%◌, ◌^◌, ℕ}
use mathlib.Core.Option.{none}
use Rattle.atomic_table.specs.Table.{step}
use Rattle.snap_model.specs.declared.call.Call.TheVariants.{Put}
use Rattle.snap_model.specs.declared.call.Entry.{Entry}
use Rattle.snap_stamp.specs.Layout.{word_at}
use Rattle.snap_stamp.specs.declared.layout.Field.{Field}
use Rattle.snap_steps.specs.Asking.{about_of, Permits}
use Rattle.snap_steps.specs.States.{link_field}
use Rattle.snap_steps.specs.Steps.Writes.{leaf_hung, hung, entry_of}
use Rattle.snap_steps.specs.declared.view.View.{View}
use Rattle.snap_steps.proofs.Keeps.Leaf.{links_leaf}
use Rattle.snap_steps.proofs.Passing.{stays_pass, pair_added}
use Rattle.snap_steps.proofs.Tallies.{tells_leaf}
use Rattle.snap_steps.proofs.writes.link_leaf.Goals as goal

pub store_told-requires-clause-step : goal.store_told-requires-clause-step
store_told-requires-clause-step c =
    subst (λ (x : ℕ). Permits c.args.rows.now c.pass.inside.seat.id c.pass.inside.seat.me (word_at c.args.parent c.link-field.result) (λ _. x) (λ _. leaf_hung c.args.key c.args.value c.args.parent c.link-field.result (step c.args.rows.now.table.slots (word_at c.args.parent c.link-field.result) x 0 none) c.pass.inside.seat.me x)) (sym c.number.ensures)
    (subst (λ (f : Field). Permits c.args.rows.now c.pass.inside.seat.id c.pass.inside.seat.me (word_at c.args.parent f) (λ _. c.args.row) (λ _. leaf_hung c.args.key c.args.value c.args.parent f (step c.args.rows.now.table.slots (word_at c.args.parent f) c.args.row 0 none) c.pass.inside.seat.me c.args.row)) (sym c.link-field.ensures)
    (links_leaf (about_of c.args.rows.now) c.args.rows.now.table.slots c.pass.inside.seat.id c.pass.inside.seat.me c.args.row c.args.key c.args.value c.args.parent (link_field c.args.side) c.requires.parent (search rules) c.pass.invariant.pass.passing (search rules) (search rules) (search rules) (search rules) (search rules)))

pub invariant_of-pass : goal.invariant_of-pass
invariant_of-pass c =
    let m = c.pass.inside.seat.me in let t = c.store_told.ensures.step in let e : Entry = entry_of m.0.who (Put c.args.key c.args.value) None in
    let v : View = hung m.0 t.0 e c.args.parent c.link-field.result c.number.result in
    stays_pass m c.store_told.new.seat.me v c.pass.inside.who c.pass.inside.uses c.pass.inside.added c.pass.inside.taken ((c.pass.inside.added + 1) % 2 ^ 64) c.pass.inside.taken c.pass.inside.owed c.one-owed.result
    (tells_leaf m.0 c.one-owed.result c.args.key c.args.key c.args.parent c.args.parent refl refl c.one-owed.ensures)
    c.pass.invariant t.2 refl refl refl refl (pair_added m.0 v e c.pass.inside.added c.pass.inside.taken refl refl refl refl c.pass.invariant.pairs)
