use Rattle.std.proofs.Common.{refl, sym, subst, ◌≡◌, ℕ, Some}
use mathlib.Core.Option.{none}
use Rattle.atomic_table.specs.Table.{step}
use Rattle.snap_rule.specs.Debt.{IsListed}
use Rattle.snap_rule.specs.declared.change.Doing.TheVariants.{Lifted}
use Rattle.snap_stamp.specs.Layout.{word_at}
use Rattle.snap_stamp.specs.declared.layout.Field.{Field}
use Rattle.snap_stamp.specs.declared.layout.Field.TheVariants.{Key, Stamp}
use Rattle.snap_steps.specs.Asking.{about_of, Permits}
use Rattle.snap_steps.specs.Facts.{IsKnown, word_in}
use Rattle.snap_steps.specs.Seen.{Known}
use Rattle.snap_steps.specs.Steps.Debts.{listing}
use Rattle.snap_steps.specs.Steps.Rotating.{HasStamps, link_turned, turn_stored}
use Rattle.snap_steps.specs.Steps.Told.{Sat}
use Rattle.snap_steps.specs.declared.view.View.{View}
use Rattle.snap_steps.proofs.Keeps.Turned.{turns}
use Rattle.snap_steps.proofs.Passing.{stays_pass, same_pairs, becomes}
use Rattle.snap_steps.proofs.Tallies.{tells_key, with_covers}
use Rattle.snap_steps.proofs.turning.link_parent.Goals as goal

pub store-requires-clause-step : goal.store-requires-clause-step
store-requires-clause-step c =
    subst (λ (y : ℕ). Permits c.args.rows.now c.pass.inside.seat.id c.pass.inside.seat.me (word_at c.args.parent c.link.result) (λ _. y) (λ _. turn_stored (step c.args.rows.now.table.slots (word_at c.args.parent c.link.result) y 0 none) c.pass.inside.seat.me 0)) (sym c.number.ensures)
    (subst (λ (f : Field). Permits c.args.rows.now c.pass.inside.seat.id c.pass.inside.seat.me (word_at c.args.parent f) (λ _. c.args.raised) (λ _. turn_stored (step c.args.rows.now.table.slots (word_at c.args.parent f) c.args.raised 0 none) c.pass.inside.seat.me 0)) (sym c.link.ensures)
    (turns (about_of c.args.rows.now) c.args.rows.now.table.slots c.pass.inside.seat.id c.pass.inside.seat.me c.args.parent c.args.parent_side c.args.row c.args.side c.args.raised c.args.key c.requires.parent
    (subst (λ (k : Known). k.view.doing ≡ Lifted c.args.parent c.args.parent_side c.args.row c.args.side c.args.raised) (sym c.pass.view_is) c.requires.change)
    (subst (λ (k : Known). IsKnown k.view.words.knows c.args.row Key c.args.key) (sym c.pass.view_is) c.requires.key)
    (subst (λ (k : Known). HasStamps k.view c.args.parent c.args.row c.args.raised) (sym c.pass.view_is) c.requires.stamps)))

pub invariant_of-pass : goal.invariant_of-pass
invariant_of-pass c =
    let m = c.pass.inside.seat.me in
    let v : View = link_turned m.0 c.args.parent c.args.parent_side c.args.row c.args.raised c.args.key in
    let t = c.store.ensures.step c.args.parent c.args.row c.args.raised c.args.key c.args.parent_side c.args.side
    (subst (λ (k : Known). k.view.doing ≡ Lifted c.args.parent c.args.parent_side c.args.row c.args.side c.args.raised) (sym c.pass.view_is) c.requires.change)
    (subst (λ (k : Known). IsKnown k.view.words.knows c.args.row Key c.args.key) (sym c.pass.view_is) c.requires.key) in
    stays_pass m c.store.new.seat.me v c.pass.inside.who c.pass.inside.uses c.pass.inside.added c.pass.inside.taken c.pass.inside.added c.pass.inside.taken c.pass.inside.owed (record { to_do = Some c.args.key; listed = c.with_row-listed.result })
    (tells_key (record { to_do = Some c.args.key; listed = c.with_row-listed.result }) v.debt c.args.key refl refl
    (let word = word_in m.0.words.knows in
    with_covers c.with_row-both.result c.with_row-listed.result c.args.row (word c.args.row Stamp) (listing c.args.raised (word c.args.raised Stamp) (listing c.args.parent (word c.args.parent Stamp) m.0.debt.list)) c.with_row-listed.ensures
    (with_covers c.with_row-above.result c.with_row-both.result c.args.raised (word c.args.raised Stamp) (listing c.args.parent (word c.args.parent Stamp) m.0.debt.list) c.with_row-both.ensures
    (with_covers c.pass.inside.owed.listed c.with_row-above.result c.args.parent (word c.args.parent Stamp) m.0.debt.list c.with_row-above.ensures c.pass.invariant.owed_is.rows))))
    c.pass.invariant t.0 refl refl refl refl (same_pairs m.0 v c.pass.inside.added c.pass.inside.taken refl refl c.pass.invariant.pairs)

pub returns-clause-pass : goal.returns-clause-pass
returns-clause-pass c =
    let m = c.pass.inside.seat.me in
    let t = c.store.ensures.step c.args.parent c.args.row c.args.raised c.args.key c.args.parent_side c.args.side
    (subst (λ (k : Known). k.view.doing ≡ Lifted c.args.parent c.args.parent_side c.args.row c.args.side c.args.raised) (sym c.pass.view_is) c.requires.change)
    (subst (λ (k : Known). IsKnown k.view.words.knows c.args.row Key c.args.key) (sym c.pass.view_is) c.requires.key) in
    becomes c.args.pass.now c.pass.inside.seat.table_id c.store.new.seat.table_id m c.store.new.seat.me (λ (v : View). link_turned v c.args.parent c.args.parent_side c.args.row c.args.raised c.args.key) c.pass.view_is c.store.ensures.table t.0

pub returns-clause-listed : goal.returns-clause-listed
returns-clause-listed c = λ x ne known.
    let t = c.store.ensures.step c.args.parent c.args.row c.args.raised c.args.key c.args.parent_side c.args.side
    (subst (λ (k : Known). k.view.doing ≡ Lifted c.args.parent c.args.parent_side c.args.row c.args.side c.args.raised) (sym c.pass.view_is) c.requires.change)
    (subst (λ (k : Known). IsKnown k.view.words.knows c.args.row Key c.args.key) (sym c.pass.view_is) c.requires.key) in
    subst (λ (n : Sat). IsListed c.args.parent x n.0.debt.list) (sym t.0) (t.1 x ne (subst (λ (k : Known). IsKnown k.view.words.knows c.args.parent Stamp x) (sym c.pass.view_is) known))
