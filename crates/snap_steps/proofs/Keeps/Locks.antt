-- Locking and freeing keep the rule.
use Rattle.snap_steps.specs.States.{state_of}
use Rattle.snap_steps.proofs.Parts.Heights.{heights_more, heights_dropped}
use Rattle.snap_steps.specs.Facts.{heights_forgotten}
use Rattle.std.proofs.Common.{◌⊎◌, ⊎_elim, ◌≡◌, ◌≢◌, ℕ, ◌+◌, ◌<◌, ◌≤◌, Bool, eqb, ◌∷◌, length, get_or, sym, ap, ◌∙◌, arith, subst}
use lib.ListN.{get_elem?}
use mathlib.Core.Logic.{dite}
use mathlib.Core.Option.{some}
use native.Mathlib.Decide.{ℕ_discrete}
use prog.Atomic.{either}
use Rattle.atomic_table.proofs.Lists.{exchanged}
use Rattle.atomic_table.specs.Table.{step, Act, keeps, Valid, carried_after, stepped, Allows}
use Rattle.snap_rule.specs.Doing.{Concerns}
use Rattle.snap_rule.specs.declared.change.Doing.TheVariants.{Nothing}
use Rattle.snap_stamp.specs.Layout.{word_at}
use Rattle.snap_stamp.specs.declared.layout.Field.TheVariants.{Lock}
use Rattle.snap_steps.specs.Counting.{total, times, removed}
use Rattle.snap_steps.specs.Memory.{Row, with_field, row}
use Rattle.snap_steps.specs.Steps.Locks.{missed, locked, locking_tried, unlocked, lock_freed}
use Rattle.snap_steps.specs.Stages.{in_write}
use Rattle.snap_steps.specs.Rule.Locks.{is_taken}
use Rattle.snap_steps.proofs.Tables.{in_times}
use Rattle.snap_steps.specs.declared.view.View.{View}
use Rattle.snap_steps.specs.declared.view.Stage.TheVariants.{Writing}
use Rattle.snap_steps.specs.declared.rule.About.{About}
use Rattle.snap_steps.proofs.Totals.{total-set, term_le, one_same, one_other, removed_other, removed_same}
use Rattle.snap_steps.proofs.Prefixes.{begins_itself}
use Rattle.snap_steps.proofs.Cells.{cell_is, changed, one_word, row_other, row_same}
use Rattle.snap_steps.proofs.EachView.{each_others}
use Rattle.snap_steps.proofs.Knowing.{facts_elsewhere, facts_freed}
use Rattle.snap_steps.proofs.Reached.{in_of}
use Rattle.snap_steps.proofs.Parts.Locks.{taken_yes, held_once, others_apart}
use Rattle.snap_steps.proofs.Classes.Turning.{Rule}
use Rattle.snap_steps.specs.Steps.Told.{Sat}
use Rattle.snap_steps.proofs.Classes.Seeing.{seeing}
use Rattle.snap_steps.proofs.Classes.Locking.{locking}
use Rattle.snap_steps.specs.Facts.{forgotten_row}
use Rattle.snap_steps.proofs.Parts.Counts.{in_write_le}
use mathlib.Core.Option as maybe
use Rattle.snap_steps.specs.Rule.History.{whole}

-- `try_lock`
pub locks : (about : About) (slots id : ℕ) (me : Sat) (r new : ℕ) (said : maybe.Option (Unit {0})) (made counted : Bool) → r ≤ about.rows → new ≡ me.0.who + 1 → me.0.stage ≡ Writing made counted → times r me.0.holds ≡ 0 → (r ≡ 0) ⊎ (0 < times r me.0.trail.reached)
    → Allows (Rule about) slots id me (word_at r Lock) (λ n. either (eqb n 0) new n) (locking_tried (step slots (word_at r Lock) 0 new said) me)
locks about slots id me r new said made counted low up writing free comes s k wide at small =
    let v : View = me.0 in let w : View = locked v r in let found : ℕ = get_or s.words (word_at r Lock) 0 in let is : found ≡ (row k.m.rows r).lock = cell_is k.memory r Lock low in let rows_wide = k.memory.wide in
    let x : Row = with_field Lock new (row k.m.rows r) in let near : r < length k.m.rows = omega arith in
    let G : ℕ → Type 0 = λ y. (w : View) × (a : Act (Unit {0})) × Valid s.homes me.1 a × Rule about (stepped s (word_at r Lock) y id me.1 w a) × locking_tried (step slots (word_at r Lock) 0 new said) me found (w, carried_after me.1 a) in
    exchanged found 0 new G
    (λ hit.
    let none_holds : total (λ u. times r u.holds) s.views ≡ 0 = k.locked.count r ∙ ap is_taken (sym is ∙ hit) in
    let apart : (j : ℕ) (u : View) → get_elem? s.views j ≡ some u → times r u.holds ≡ 0 = λ j u there. omega (arith, none_holds, term_le (λ y. times r y.holds) s.views j u there) in (
      w,
      keeps,
      tt,
      locking about s.words s.views k id v at r new low (r ∷ v.holds) v.words.knows v.heights (ap in_write writing)
          record {
            count = λ y. dite (ℕ_discrete y r)
                (λ e. let here : (row (changed k.m.rows r Lock new) y).lock ≡ new = ap (λ (z : ℕ). (row (changed k.m.rows r Lock new) z).lock) e ∙ ap (λ (z : Row). z.lock) (row_same k.m.rows r x near) in
                let none_here : total (λ u. times y u.holds) s.views ≡ 0 = ap (λ (z : ℕ). total (λ u. times z u.holds) s.views) e ∙ none_holds in
                omega (arith, total-set (λ u. times y u.holds) s.views id v w at, one_same y r e, none_here, term_le (λ u. times y u.holds) s.views id v at, ap is_taken here, taken_yes new (omega arith)))
                (λ ne. omega (arith, total-set (λ u. times y u.holds) s.views id v w at, one_other y r ne, k.locked.count y, ap (λ (z : Row). is_taken z.lock) (row_other k.m.rows r y x ne)));
            owner = each_others s.views id v at w
                (λ j u ne there y l. let other : y ≢ r = λ e. omega (arith, apart j u there, ap (λ (z : ℕ). times z u.holds) e) in ap (λ (z : Row). z.lock) (row_other k.m.rows r y x other) ∙ k.locked.owner j u there y l)
                (λ y l. dite (ℕ_discrete y r) (λ e. ap (λ (z : ℕ). (row (changed k.m.rows r Lock new) z).lock) e ∙ ap (λ (z : Row). z.lock) (row_same k.m.rows r x near) ∙ up)
                (λ ne. ap (λ (z : Row). z.lock) (row_other k.m.rows r y x ne) ∙ k.locked.owner id v at y (omega (arith, one_other y r ne))));
            writing = each_others s.views id v at w (λ j u ne there. k.locked.writing j u there)
                (λ y. dite (ℕ_discrete y r) (λ e. omega (arith, one_same y r e, ap (λ (z : ℕ). times z v.holds) e, ap in_write writing)) (λ ne. omega (arith, one_other y r ne, k.locked.writing id v at y)));
          }
          (each_others s.views id v at w (λ j u ne there. facts_elsewhere k.m.rows r x u.holds u.holds u.words.knows (k.known j u there) (apart j u there) (λ y. omega arith))
          (facts_elsewhere k.m.rows r x v.holds (r ∷ v.holds) v.words.knows (k.known id v at) free (λ y. omega arith)))
          (λ pos. ⊎_elim (λ (z : r ≡ 0). absurd (omega arith)) (λ (l : 0 < times r v.trail.reached). in_times r k.g.linked (in_of k.g.linked v.trail.reached r (k.reached id v at) l)) comes)
          (heights_more (state_of k.m k.g) r v.holds v.heights (k.heights id v at))
          (λ y c. omega (arith, k.held id v at y c)),
      λ r' same. let t = one_word r r' Lock Lock same in ((λ _. ap (λ (z : ℕ). (locked v z, me.1)) t.0), (λ miss. absurd (miss hit))),
    ))
    (λ miss. let seen = k.history.seen id v at in (
      missed v r found,
      keeps,
      tt,
      seeing about s.words s.views k (word_at r Lock) id v (missed v r found) at (k.known id v at) (k.reached id v at) (k.ways id v at) (k.places id v at) (k.present id v at) (k.notes id v at) (k.worn id v at) (k.lasting id v at) (begins_itself v.seen) seen.0 seen.1,
      λ r' same. let t = one_word r r' Lock Lock same in ((λ hit. absurd (miss hit)), λ _. ap (λ (z : ℕ). (missed v z found, me.1)) t.0),
    ))

-- `free_lock`
pub frees : (about : About) (slots id : ℕ) (me : Sat) (r : ℕ) → r ≤ about.rows → 0 < times r me.0.holds → me.0.doing ≡ Nothing → Allows (Rule about) slots id me (word_at r Lock) (λ _. 0) (λ _. lock_freed (step slots (word_at r Lock) 0 0 maybe.none) me 0)
frees about slots id me r low held whole s k wide at small =
    let v : View = me.0 in let w : View = unlocked v r in let rows_wide = k.memory.wide in
    let x : Row = with_field Lock 0 (row k.m.rows r) in let near : r < length k.m.rows = omega arith in
    let once = held_once s.views id v at k.m.rows r k.locked in let in_it : in_write v.stage ≡ 1 = omega (arith, k.locked.writing id v at r, in_write_le v.stage) in
    let apart = others_apart s.views id v at k.m.rows r k.locked held in
    let less : (y : ℕ) → times y (removed r v.holds) ≤ times y v.holds = λ y. dite (ℕ_discrete y r) (λ e. omega (arith, ap (λ (z : ℕ). times z (removed r v.holds)) e, removed_same r v.holds)) (λ ne. omega (arith, removed_other r y v.holds ne)) in (
      w,
      keeps,
      tt,
      locking about s.words s.views k id v at r 0 low (removed r v.holds) (forgotten_row v.words.knows r) (heights_forgotten v.heights r) in_it
          record {
            count = λ y. dite (ℕ_discrete y r)
                (λ e. let here : (row (changed k.m.rows r Lock 0) y).lock ≡ 0 = ap (λ (z : ℕ). (row (changed k.m.rows r Lock 0) z).lock) e ∙ ap (λ (z : Row). z.lock) (row_same k.m.rows r x near) in
                omega (
                  arith,
                  total-set (λ u. times y u.holds) s.views id v w at,
                  k.locked.count y,
                  ap (λ (z : ℕ). times z (removed r v.holds)) e,
                  removed_same r v.holds,
                  ap (λ (z : ℕ). times z v.holds) e,
                  ap is_taken here,
                  ap is_taken (k.locked.owner id v at y (omega (arith, ap (λ (z : ℕ). times z v.holds) e))),
                  taken_yes (v.who + 1) (omega arith),
                ))
                (λ ne. omega (arith, total-set (λ u. times y u.holds) s.views id v w at, removed_other r y v.holds ne, k.locked.count y, ap (λ (z : Row). is_taken z.lock) (row_other k.m.rows r y x ne)));
            owner = each_others s.views id v at w
                (λ j u ne there y l. let other : y ≢ r = λ e. omega (arith, apart j u ne there, ap (λ (z : ℕ). times z u.holds) e) in ap (λ (z : Row). z.lock) (row_other k.m.rows r y x other) ∙ k.locked.owner j u there y l)
                (λ y l. dite (ℕ_discrete y r) (λ e. absurd (omega (arith, ap (λ (z : ℕ). times z (removed r v.holds)) e, removed_same r v.holds))) (λ ne. ap (λ (z : Row). z.lock) (row_other k.m.rows r y x ne) ∙ k.locked.owner id v at y (omega (arith, removed_other r y v.holds ne))));
            writing = each_others s.views id v at w (λ j u ne there. k.locked.writing j u there) (λ y. omega (arith, less y, k.locked.writing id v at y));
          }
          (each_others s.views id v at w (λ j u ne there. facts_elsewhere k.m.rows r x u.holds u.holds u.words.knows (k.known j u there) (apart j u ne there) (λ y. omega arith)) (facts_freed k.m.rows r x v.holds v.words.knows (k.known id v at)))
          (λ pos. dite (ℕ_discrete (times r k.g.linked) 0) (λ z. absurd (omega (arith, (k.apart.fresh r pos z).0, k.locked.owner id v at r held))) (λ nz. omega arith))
          (heights_dropped (state_of k.m k.g) r v.holds v.heights (k.heights id v at))
          (λ y c. absurd (subst (λ x. Concerns x y) whole c)),
      λ r' same. let t = one_word r r' Lock Lock same in ap (λ (z : ℕ). (unlocked v z, me.1)) t.0,
    )
