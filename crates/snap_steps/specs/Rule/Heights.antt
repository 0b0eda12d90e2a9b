-- The part of the rule on heights: what a pass loaded of the heights below a row that it holds is
-- so.
use Rattle.std.specs.Prelude.{◌≡◌, ℕ, List, [], ◌∷◌}
use Rattle.snap_rule.specs.Rule.{IsLive}
use Rattle.snap_rule.specs.Settled.{child_height}
use Rattle.snap_rule.specs.State.{State as Table}
use Rattle.snap_steps.specs.Counting.{Among}
use Rattle.snap_steps.specs.declared.view.ChildHeight.{ChildHeight}

-- the row is held and live, and its child on the side has this stored height
pub record IsHeight (s : Table) (holds : List ℕ) (x : ChildHeight) : Type 0 where
  pub held : Among x.row holds
  pub live : IsLive s x.row
  pub height : child_height s x.row x.side ≡ x.height

abbrev pub AreHeights : Table → List ℕ → List ChildHeight → Type 0
AreHeights s holds [] = Unit {0}
AreHeights s holds (x ∷ xs) = IsHeight s holds x × AreHeights s holds xs
