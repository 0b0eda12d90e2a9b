-- The part of the rule on counting entries.
use Rattle.std.specs.Prelude.{◌≡◌, ℕ, ◌+◌, ◌≤◌, List}
use Rattle.snap_steps.specs.Counting.{total}
use Rattle.snap_steps.specs.Stages.{owes_count, has_counted}
use Rattle.snap_steps.specs.declared.view.View.{View}

-- writes ended that stand in the history, and those whose entry is still to be counted. No write is
-- counted twice
pub record AreCounted (done left entries : ℕ) (views : List View) : Type 0 where
  pub all : entries ≡ done + total (λ v. owes_count v.stage) views
  pub few : done ≤ left + total (λ v. has_counted v.stage) views
