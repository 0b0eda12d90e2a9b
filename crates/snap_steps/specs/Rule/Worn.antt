-- The part of the rule on stamps at their greatest count: who noted one is right, for good.
use Rattle.std.specs.Prelude.{◌≡◌, ℕ, ◌≤◌, true}
use Rattle.snap_rule.specs.State.{State as Table}
use Rattle.snap_stamp.specs.Stamps.{count_of, last_count}
use Rattle.snap_steps.specs.declared.view.View.{View}
use Rattle.snap_steps.specs.Counting.{Among}

-- a row that was linked may be lowered no more
pub record IsWorn (s : Table) : Type 0 where
  pub row : ℕ
  pub linked : Among row s.linked
  pub last : last_count ≤ count_of (s.stamp row)

abbrev pub KnowsWorn : Table → View → Type 0
KnowsWorn s v = v.noted.worn ≡ true → IsWorn s
