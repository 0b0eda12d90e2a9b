-- Locks, once a view has changed.
use Rattle.std.proofs.Common.{ℕ, zero, suc, ◌≤◌, arith, ◌≡◌, ◌<◌, refl, List, ◌≢◌, length, set, sym, ap, ◌∙◌}
use lib.ListN.{get_elem?}
use mathlib.Core.Logic.{dite}
use mathlib.Core.Option.{some}
use native.Mathlib.Decide.{ℕ_discrete}
use Rattle.snap_steps.specs.Rule.Locks.{is_taken, AreLocked, OwnsLocks}
use Rattle.snap_steps.specs.Counting.{times}
use Rattle.snap_steps.specs.Memory.{Row, row}
use Rattle.snap_steps.specs.declared.view.View.{View}
use Rattle.snap_steps.proofs.Totals.{term_le, terms_le, total-set}
use Rattle.snap_steps.specs.Stages.{in_write}
use Rattle.snap_steps.proofs.Cells.{row_same, row_other}
use Rattle.snap_steps.proofs.EachView.{each_others, each_stays}

taken_le : (n : ℕ) → is_taken n ≤ 1
taken_le zero = omega arith
taken_le (suc n) = omega arith

pub taken_yes : (n : ℕ) → 0 < n → is_taken n ≡ 1
taken_yes zero l = absurd (omega arith)
taken_yes (suc n) l = refl

module _ (views : List View) (id : ℕ) (v : View) (at : get_elem? views id ≡ some v) where
  pub held_once : (rows : List Row) (r : ℕ) → AreLocked rows views → times r v.holds ≤ 1
  held_once rows r h = omega (arith, term_le (λ u. times r u.holds) views id v at, h.count r, taken_le (row rows r).lock)

  -- no other pass holds a row that this pass holds
  pub others_apart : (rows : List Row) (r : ℕ) → AreLocked rows views → 0 < times r v.holds → (j : ℕ) (u : View) → j ≢ id → get_elem? views j ≡ some u → times r u.holds ≡ 0
  others_apart rows r h held j u ne there = omega (arith, terms_le (λ x. times r x.holds) views id j v u ne at there, h.count r, taken_le (row rows r).lock)

  -- the locks are as they were where a held row has another word, but its lock word
  pub locks_stay : (rows : List Row) (r : ℕ) (x : Row) (w : View) → AreLocked rows views → x.lock ≡ (row rows r).lock → r < length rows → w.holds ≡ v.holds → w.who ≡ v.who → in_write w.stage ≡ in_write v.stage → AreLocked (set rows r x) (set views id w)
  locks_stay rows r x w h same near holds who writing =
      let lock : (s : ℕ) → (row (set rows r x) s).lock ≡ (row rows s).lock = λ s. dite (ℕ_discrete s r) (λ e. ap (λ (y : ℕ). (row (set rows r x) y).lock) e ∙ ap (λ (y : Row). y.lock) (row_same rows r x near) ∙ same ∙ ap (λ (y : ℕ). (row rows y).lock) (sym e)) (λ ne. ap (λ (y : Row). y.lock) (row_other rows r s x ne)) in
      record {
        count = λ s. omega (arith, h.count s, ap is_taken (lock s), ap (times s) holds, total-set (λ u. times s u.holds) views id v w at);
        owner = each_others views id v at w (λ j u ne there s l. lock s ∙ h.owner j u there s l) (λ s l. let was : 0 < times s v.holds = omega (arith, ap (times s) holds) in omega (arith, lock s, h.owner id v at s was));
        writing = each_others views id v at w (λ j u ne there. h.writing j u there) (λ s. omega (arith, h.writing id v at s, ap (times s) holds));
      }

module _ (views : List View) (id : ℕ) (v w : View) (at : get_elem? views id ≡ some v) where
  pub locked_stays : (rows : List Row) → AreLocked rows views → w.holds ≡ v.holds → w.who ≡ v.who → ((r : ℕ) → times r w.holds ≤ in_write w.stage) → AreLocked rows (set views id w)
  locked_stays rows h holds who writing = record {
    count = λ r. omega (arith, h.count r, ap (times r) holds, total-set (λ u. times r u.holds) views id v w at);
    owner = each_stays views id v w at (OwnsLocks rows) h.owner (λ p r l. let was : 0 < times r v.holds = omega (arith, ap (times r) holds) in omega (arith, p r was));
    writing = each_stays views id v w at (λ u. (r : ℕ) → times r u.holds ≤ in_write u.stage) h.writing (λ p. writing);
  }
