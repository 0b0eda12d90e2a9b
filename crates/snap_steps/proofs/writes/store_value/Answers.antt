use Rattle.std.proofs.Common.{rules, sym, subst, ℕ, ◌<◌, ◌≤◌, ◌≡◌, refl}
use mathlib.Core.Option.{none}
use Rattle.atomic_table.specs.Table.{step, Allows}
use Rattle.snap_steps.proofs.Classes.Turning.{Rule}
use Rattle.snap_rule.specs.Tree.{value_of}
use Rattle.snap_steps.specs.Seen.{Known, Becomes}
use Rattle.snap_steps.specs.Histories.{Enters}
use Rattle.snap_steps.specs.Steps.Writes.{StoresValue, stored, call_of, entry_of}
use Rattle.snap_steps.specs.Facts.{IsKnown}
use Rattle.snap_steps.specs.declared.view.View.{View}
use Rattle.snap_stamp.specs.declared.layout.Field.TheVariants.{Key, Value}
use Rattle.snap_steps.proofs.Passing.{stays_pass, entry_counted, becomes}
use Rattle.snap_steps.proofs.Cells.{word_within}
use Rattle.snap_steps.proofs.Keeps.Writes.{stores}
use Rattle.snap_model.specs.History.{call_key}
use Rattle.snap_steps.proofs.Classes.Entering.{key_made}
use Rattle.snap_steps.proofs.Tallies.{tells_value}
use Rattle.std.proofs.Common.{ap, ◌∙◌, ◌%◌, ◌^◌, ◌+◌}
use Rattle.snap_steps.specs.Pairs.{added_by, taken_by}
use Rattle.snap_model.specs.declared.call.Entry.{Entry}
use Rattle.snap_steps.proofs.writes.store_value.Goals as goal

pub swap-was-requires : goal.swap-was-requires
swap-was-requires c =
    let low : c.args.row ≤ c.rows.inside.table.shared.key.rows = search rules in
    let near : c.index_of-word.result < c.rows.inside.table.shared.table_id.words = word_within _ _ c.args.row c.rows.inside.rows Value c.index_of-word.ensures (search rules) c.rows.invariant.words_are in
    (search rules, near, subst (λ (i : ℕ). Allows (Rule c.rows.inside.table.shared.key) c.rows.inside.table.shared.table_id.slots c.pass.inside.seat.id c.pass.inside.seat.me i (λ _. c.args.new) (StoresValue (step c.rows.inside.table.shared.table_id.slots i c.args.new 0 none) c.pass.inside.seat.me)) (sym c.index_of-word.ensures) (stores c.rows.inside.table.shared.key c.rows.inside.table.shared.table_id.slots c.pass.inside.seat.id c.pass.inside.seat.me c.args.row c.args.key c.args.new low c.pass.invariant.pass.passing (search rules) (search rules) (search rules) (search rules) (search rules) (search rules) (search rules)))

pub invariant_of-pass : goal.invariant_of-pass
invariant_of-pass c =
    let t = c.swap-was.ensures.2 c.args.row c.index_of-word.ensures in let m = c.pass.inside.seat.me in
    let key : c.args.key ≡ t.0 = t.1 c.args.key (subst (λ (k : Known). IsKnown k.view.words.knows c.args.row Key c.args.key) (sym c.pass.view_is) c.requires.key) in
    let e : Entry = entry_of m.0.who (call_of t.0 c.args.new) (value_of c.swap-was.result) in
    let v : View = stored m.0 t.3 e c.args.row c.args.new in
    stays_pass m c.swap-was.new.seat.me v c.pass.inside.who c.pass.inside.uses c.pass.inside.added c.pass.inside.taken ((c.pass.inside.added + c.pairs_added.result) % 2 ^ 64) ((c.pass.inside.taken + c.pairs_taken.result) % 2 ^ 64) c.pass.inside.owed c.owed_after-owed.result (tells_value m.0 c.pass.inside.owed c.owed_after-owed.result c.args.key (call_key (call_of t.0 c.args.new)) c.args.row c.args.new (key ∙ sym (key_made t.0 c.args.new)) c.owed_after-owed.ensures c.pass.invariant.owed_is) c.pass.invariant t.5 refl refl refl refl
    (entry_counted m.0 v e c.pass.inside.added c.pass.inside.taken c.pairs_added.result c.pairs_taken.result refl refl
    (c.pairs_added.ensures ∙ ap (λ (k : ℕ). added_by (call_of k c.args.new) (value_of c.swap-was.result)) key)
    (c.pairs_taken.ensures ∙ ap (λ (k : ℕ). taken_by (call_of k c.args.new) (value_of c.swap-was.result)) key) c.pass.invariant.pairs)

pub returns-clause-known : goal.returns-clause-known
returns-clause-known c = let t = c.swap-was.ensures.2 c.args.row c.index_of-word.ensures in λ x is. t.2 x (subst (λ (k : Known). IsKnown k.view.words.knows c.args.row Value x) (sym c.pass.view_is) is)

pub returns-clause-entry : goal.returns-clause-entry
returns-clause-entry c =
    let t = c.swap-was.ensures.2 c.args.row c.index_of-word.ensures in let m = c.pass.inside.seat.me in
    let key : c.args.key ≡ t.0 = t.1 c.args.key (subst (λ (k : Known). IsKnown k.view.words.knows c.args.row Key c.args.key) (sym c.pass.view_is) c.requires.key) in
    let there = becomes c.args.pass.now c.pass.inside.seat.table_id c.swap-was.new.seat.table_id m c.swap-was.new.seat.me (λ (v : View). stored v t.3 (entry_of v.who (call_of t.0 c.args.new) (value_of c.swap-was.result)) c.args.row c.args.new) c.pass.view_is c.swap-was.ensures.0 t.5 in
    let enters : Enters c.args.pass.now.view t.3 (entry_of c.args.pass.now.view.who (call_of t.0 c.args.new) (value_of c.swap-was.result)) = subst (λ (k : Known). Enters k.view t.3 (entry_of k.view.who (call_of t.0 c.args.new) (value_of c.swap-was.result))) c.pass.view_is t.4 in (
      t.3,
      subst (λ (x : ℕ). Enters c.args.pass.now.view t.3 (entry_of c.args.pass.now.view.who (call_of x c.args.new) (value_of c.swap-was.result))) (sym key) enters,
      subst (λ (x : ℕ). Becomes c.args.pass.now (record { table = c.swap-was.new.seat.table_id; view = c.swap-was.new.seat.me.0 }) (stored c.args.pass.now.view t.3 (entry_of c.args.pass.now.view.who (call_of x c.args.new) (value_of c.swap-was.result)) c.args.row c.args.new)) (sym key) there,
    )
