-- The part of the rule on rows that were handed out.
use Rattle.std.specs.Prelude.{◌≡◌, ℕ, ◌<◌, ◌≤◌, List}
use Rattle.snap_steps.specs.Counting.{total}
use Rattle.snap_steps.specs.Numbers.{all_drawn, times_drawn}
use Rattle.snap_steps.specs.declared.view.View.{View}

-- each row from 1 to next stands once in what passes, receipts and admitted numbers drew, no other
-- row does, and so many were drawn
pub record AreDrawn (next : ℕ) (views : List View) : Type 0 where
  pub once : (r : ℕ) → 0 < r → r ≤ next → total (times_drawn r) views ≡ 1
  pub none_later : (r : ℕ) → next < r → total (times_drawn r) views ≡ 0
  pub none_zero : total (times_drawn 0) views ≡ 0
  pub all : next ≡ total all_drawn views
