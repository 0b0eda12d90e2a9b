use Rattle.std.proofs.Common.{rules, refl, sym, subst, ap, ℕ}
use mathlib.Core.Option.{none}
use Rattle.atomic_table.specs.Table.{step}
use Rattle.snap_stamp.specs.Layout.{word_at}
use Rattle.snap_stamp.specs.declared.layout.Field.{Field}
use Rattle.snap_steps.specs.Asking.{about_of, Permits}
use Rattle.snap_steps.specs.States.{link_field}
use Rattle.snap_steps.specs.Steps.Copies.{copied, LinksCopy}
use Rattle.snap_steps.specs.declared.view.View.{View}
use Rattle.snap_steps.proofs.Keeps.Copies.{links_copy}
use Rattle.snap_steps.proofs.Passing.{stays_pass, same_pairs}
use Rattle.snap_steps.proofs.copies.link_copy.Goals as goal

pub store_told-requires-clause-step : goal.store_told-requires-clause-step
store_told-requires-clause-step c =
    subst (λ (x : ℕ). Permits c.args.rows.now c.pass.inside.seat.id c.pass.inside.seat.me (word_at c.args.parent c.link.result) (λ _. x) (λ _. LinksCopy c.args.key (step c.args.rows.now.table.slots (word_at c.args.parent c.link.result) x 0 none) c.pass.inside.seat.me x)) (sym c.number.ensures)
    (subst (λ (f : Field). Permits c.args.rows.now c.pass.inside.seat.id c.pass.inside.seat.me (word_at c.args.parent f) (λ _. c.args.copy) (λ _. LinksCopy c.args.key (step c.args.rows.now.table.slots (word_at c.args.parent f) c.args.copy 0 none) c.pass.inside.seat.me c.args.copy)) (sym c.link.ensures)
    (links_copy (about_of c.args.rows.now) c.args.rows.now.table.slots c.pass.inside.seat.id c.pass.inside.seat.me c.args.key c.args.parent c.args.side c.args.child c.args.copy c.requires.parent (search rules) (search rules) (search rules) (search rules) (search rules)))

pub invariant_of-pass : goal.invariant_of-pass
invariant_of-pass c =
    let m = c.pass.inside.seat.me in let t = c.store_told.ensures.step c.args.parent c.args.side (ap (word_at c.args.parent) c.link.ensures) in
    let v : View = copied m.0 c.args.key c.args.parent (link_field c.args.side) c.number.result in
    stays_pass m c.store_told.new.seat.me v c.pass.inside.who c.pass.inside.uses c.pass.inside.added c.pass.inside.taken c.pass.inside.added c.pass.inside.taken c.pass.inside.owed c.pass.inside.owed
    c.pass.invariant.owed_is
    c.pass.invariant t refl refl refl refl (same_pairs m.0 v c.pass.inside.added c.pass.inside.taken refl refl c.pass.invariant.pairs)
