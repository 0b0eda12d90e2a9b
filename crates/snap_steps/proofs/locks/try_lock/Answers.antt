use Rattle.std.proofs.Common.{rules, sym, subst, ap, ℕ, ◌+◌, ◌<◌, ◌≤◌, eqb, refl}
use mathlib.Core.Option.{none}
use prog.Atomic.{either}
use Rattle.atomic_table.specs.Table.{step, Allows}
use Rattle.snap_steps.proofs.Classes.Turning.{Rule}
use Rattle.snap_steps.specs.Steps.Locks.{locked, missed, locking_tried}
use Rattle.snap_steps.specs.declared.view.View.{View}
use Rattle.snap_steps.proofs.Passing.{stays_pass, same_pairs, becomes}
use Rattle.snap_steps.proofs.Cells.{word_within}
use Rattle.snap_stamp.specs.declared.layout.Field.TheVariants.{Lock}
use Rattle.snap_steps.proofs.Keeps.Locks.{locks}
use Rattle.snap_steps.proofs.locks.try_lock.Goals as goal
use Rattle.snap_steps.proofs.locks.try_lock.Goals.{then-found-eq0, else-found-eq0}

pub compare_exchange-found-requires : goal.compare_exchange-found-requires
compare_exchange-found-requires c =
    let low : c.args.row ≤ c.rows.inside.table.shared.key.rows = search rules in
    let near : c.index_of-word.result < c.rows.inside.table.shared.table_id.words = word_within _ _ c.args.row c.rows.inside.rows Lock c.index_of-word.ensures (search rules) c.rows.invariant.words_are in
    let t = c.requires.writing in (
      search rules,
      near,
      subst (λ (i : ℕ). Allows (Rule c.rows.inside.table.shared.key) c.rows.inside.table.shared.table_id.slots c.pass.inside.seat.id c.pass.inside.seat.me i (λ n. either (eqb n 0) (c.pass.inside.who + 1) n) (locking_tried (step c.rows.inside.table.shared.table_id.slots i 0 (c.pass.inside.who + 1) none) c.pass.inside.seat.me)) (sym c.index_of-word.ensures)
          (locks c.rows.inside.table.shared.key c.rows.inside.table.shared.table_id.slots c.pass.inside.seat.id c.pass.inside.seat.me c.args.row (c.pass.inside.who + 1) none t.0 t.1 low (ap (λ (w : ℕ). w + 1) c.pass.invariant.who_is) (search rules) (search rules) (search rules)),
    )

pub invariant_of-pass : goal.invariant_of-pass
invariant_of-pass c = let t = c.compare_exchange-found.ensures.2 c.args.row c.index_of-word.ensures in let m = c.pass.inside.seat.me in
    elim c.if-found-eq0.branch [
      | then-found-eq0 w ↦ stays_pass m c.compare_exchange-found.new.seat.me (locked m.0 c.args.row) c.pass.inside.who c.pass.inside.uses c.pass.inside.added c.pass.inside.taken c.pass.inside.added c.pass.inside.taken c.pass.inside.owed c.pass.inside.owed c.pass.invariant.owed_is c.pass.invariant (t.0 w.if-found-eq0.true) refl refl refl refl (same_pairs c.pass.inside.seat.me.0 (locked m.0 c.args.row) c.pass.inside.added c.pass.inside.taken refl refl c.pass.invariant.pairs)
      | else-found-eq0 w ↦ stays_pass m c.compare_exchange-found.new.seat.me (missed m.0 c.args.row c.compare_exchange-found.result) c.pass.inside.who c.pass.inside.uses c.pass.inside.added c.pass.inside.taken c.pass.inside.added c.pass.inside.taken c.pass.inside.owed c.pass.inside.owed c.pass.invariant.owed_is c.pass.invariant (t.1 w.if-found-eq0.false) refl refl refl refl (same_pairs c.pass.inside.seat.me.0 (missed m.0 c.args.row c.compare_exchange-found.result) c.pass.inside.added c.pass.inside.taken refl refl c.pass.invariant.pairs)
    ]

pub returns : goal.returns
returns c = let t = c.compare_exchange-found.ensures.2 c.args.row c.index_of-word.ensures in let m = c.pass.inside.seat.me in let word = c.compare_exchange-found.result in
    elim c.if-found-eq0.branch [
      | then-found-eq0 w ↦ rw w.result-is (becomes c.args.pass.now c.pass.inside.seat.table_id c.compare_exchange-found.new.seat.table_id m c.compare_exchange-found.new.seat.me (λ (v : View). locked v c.args.row) c.pass.view_is c.compare_exchange-found.ensures.0 (t.0 w.if-found-eq0.true))
      | else-found-eq0 w ↦ rw w.result-is (word, w.if-found-eq0.false, becomes c.args.pass.now c.pass.inside.seat.table_id c.compare_exchange-found.new.seat.table_id m c.compare_exchange-found.new.seat.me (λ (v : View). missed v c.args.row word) c.pass.view_is c.compare_exchange-found.ensures.0 (t.1 w.if-found-eq0.false))
    ]
