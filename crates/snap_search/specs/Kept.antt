-- The last rows of a way down, which a repair takes as hints.
use Rattle.std.specs.Prelude.{◌≡◌, ◌≢◌, ◌⊎◌, ◌≤◌, ◌-◌, ◌==◌, ℕ, List, [], ◌∷◌, ◌++◌, length, All, Option, None, Some, true, if◌then◌else◌, slice_get}
use Rattle.snap_search.specs.{Work.IsReached, declared.down.Spot.Spot, declared.endings.Ending.Ending}
use Rattle.snap_search.specs.{declared.kept.Step.Step, declared.kept.Way.Way, declared.places.Place.Place}
use Rattle.snap_search.specs.{declared.places.Place.TheVariants.Here}
use Rattle.snap_prelude.specs.{Right, View}

abbrev pub step_at : Spot → Step
step_at s = record { row = s.row; side = s.side }

-- how many steps are kept at most
abbrev pub way_room : ℕ
way_room = 32

-- one step more, or that alone where there was no room
abbrev pub with_step : List Step → Step → List Step
with_step steps s = if length steps == way_room then s ∷ [] else steps ++ s ∷ []

-- at a row with the key the one above it is kept too
abbrev pub with_above : Place → List Step → Spot → List Step
with_above (Here row) steps s = with_step steps (step_at s)
with_above elsewhere steps s = steps

-- and at the place of a write the row with the key too, as if the way went on to its right
abbrev pub with_row : Place → List Step → List Step
with_row (Here row) steps = with_step steps (record { row = row; side = Right })
with_row elsewhere steps = steps

-- a kept row, below the one above it
abbrev pub kept_end : Step → Step → Ending
kept_end above last =
    record {
      above = above.row;
      above_side = above.side;
      row = last.row;
      stamp = 0;
      side = last.side;
      here = true;
    }

-- the last step goes, and with the one above it makes the end of a way, but not at row 0
pub record GoesUpTo (old new : List Step) (e : Ending) : Type 0 where
  pub above : Step
  pub last : Step
  pub are : old ≡ new ++ last ∷ []
  pub is_above : slice_get new (length new - 1) ≡ Some above
  pub is_end : e ≡ kept_end above last
  pub is_row : last.row ≢ 0

abbrev pub GoesUp : List Step → List Step → Option Ending → Type 0
GoesUp old new None = ((old ≡ []) × (new ≡ []))
    ⊎ ((last : Step) × (old ≡ new ++ last ∷ []) × ((last.row ≡ 0) ⊎ (new ≡ [])))
GoesUp old new (Some e) = GoesUpTo old new e

-- a row of the table to which the pass came. Of row 0 the right side alone counts
pub record IsStep (rows : ℕ) (v : View) (s : Step) : Type 0 where
  pub low : s.row ≤ rows
  pub reached : IsReached v s.row
  pub on_right : s.row ≡ 0 → s.side ≡ Right

-- so is each row that is kept
abbrev pub IsWay : ℕ → View → Way → Type 0
IsWay rows v way = All (IsStep rows v) way.steps.items
