-- The part of the rule on locks, and on what is known of held rows.
use Rattle.std.specs.Prelude.{ℕ, zero, suc, ◌≡◌, ◌+◌, List, ◌≤◌}
use Rattle.snap_steps.specs.Counting.{times, total, Among}
use Rattle.snap_steps.specs.Memory.{Row, row}
use Rattle.snap_steps.specs.declared.view.View.{View}
use Rattle.snap_steps.specs.Stages.{in_write}
use Rattle.snap_steps.specs.Each.{Each}
use Rattle.snap_steps.specs.Facts.{AreFacts}

abbrev pub is_taken : ℕ → ℕ
is_taken zero = 0
is_taken (suc n) = 1

abbrev pub OwnsLocks : List Row → View → Type 0
OwnsLocks rows v = (r : ℕ) → Among r v.holds → (row rows r).lock ≡ v.who + 1

-- a lock word is i + 1 exactly where pass i holds the row, and only a pass in a write holds one
pub record AreLocked (rows : List Row) (views : List View) : Type 0 where
  pub count : (r : ℕ) → total (λ v. times r v.holds) views ≡ is_taken (row rows r).lock
  pub owner : Each (OwnsLocks rows) views
  pub writing : Each (λ v. (r : ℕ) → times r v.holds ≤ in_write v.stage) views

abbrev pub KnowsRows : List Row → View → Type 0
KnowsRows rows v = AreFacts rows v.holds v.words.knows
