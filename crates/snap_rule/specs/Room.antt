-- Whether repair can go on. It needs a row to be drawn for each copy, and a stamp with a further
-- count for each row that is lowered. Where either is lacking, a pass has a reason to leave rows
-- unsettled; a reason lasts for good.
use Rattle.std.specs.Prelude.{ℕ, ◌<◌, ◌≤◌, ◌⊎◌}
use Rattle.snap_stamp.specs.Stamps.{count_of, last_count}
use Rattle.snap_rule.specs.State.{State, WasLinked}

-- `next` of the rows were drawn
pub record HasRoom (s : State) (next rows : ℕ) : Type 0 where
  pub rows_left : next < rows
  pub stamps : (n : ℕ) → WasLinked s n → count_of (s.stamp n) < last_count

-- a row that may be lowered no more
pub record StampOut (s : State) : Type 0 where
  pub row : ℕ
  pub linked : WasLinked s row
  pub last : last_count ≤ count_of (s.stamp row)

abbrev pub HasReason : State → (next rows : ℕ) → Type 0
HasReason s next rows = (rows ≤ next) ⊎ StampOut s
