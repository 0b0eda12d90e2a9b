-- The places of copies: the one that a write found for its key, and the one that a rotation wants.
use Rattle.std.specs.Prelude.{◌≡◌, ◌≢◌, ◌⊎◌, ◌≤◌, ◌+◌, ℕ, Bool, false, Option, None, Some}
use Rattle.snap_stamp.specs.Sides.{other}
use Rattle.snap_stamp.specs.declared.side.Side.{Side}
use Rattle.snap_stamp.specs.declared.side.Side.TheVariants as sides
use Rattle.snap_steps.specs.Counting.{Among}
use Rattle.snap_steps.specs.Facts.{IsKnown, IsBorn}
use Rattle.snap_steps.specs.States.{link_field}
use Rattle.snap_steps.specs.Steps.Copies.{IsAbove}
use Rattle.snap_steps.specs.Steps.Settling.{HasHeight}
use Rattle.snap_steps.specs.declared.view.Stage.TheVariants.{Writing}
use Rattle.snap_steps.specs.declared.view.View.{View}

-- the held row `upper` is higher on side d by two at least
pub record Leans (v : View) (upper : ℕ) (d : Side) : Type 0 where
  pub held : Among upper v.holds
  pub high : ℕ
  pub low : ℕ
  pub is_high : HasHeight v upper d high
  pub is_low : HasHeight v upper (other d) low
  pub tilts : low + 2 ≤ high

-- the parent is such a row and the side the higher one, or it is the child there and the side the
-- other one. There is a child
pub record IsTilt (v : View) (upper parent : ℕ) (side : Side) : Type 0 where
  pub higher : Side
  pub leans : Leans v upper higher
  pub at : ((parent ≡ upper) × (side ≡ higher))
      ⊎ (IsKnown v.words.knows upper (link_field higher) parent × (side ≡ other higher))
  pub child : ℕ
  pub some_child : child ≢ 0
  pub leads : IsKnown v.words.knows parent (link_field side) child

-- the place that a rotation wants, at a held live row
pub record IsBelowTilt (v : View) (parent : ℕ) (side : Side) (child : ℕ) : Type 0 where
  pub held : Among parent v.holds
  pub live : (Among parent v.trail.reached) × IsBorn v parent
  pub child_is : IsKnown v.words.knows parent (link_field side) child
  pub upper : ℕ
  pub tilt : IsTilt v upper parent side

-- where a copy may be linked: without an entry at the place of a key, or at one that a rotation
-- wants, which sets no key
abbrev pub IsCopyPlace : View → Option ℕ → ℕ → Side → ℕ → Type 0
IsCopyPlace v (Some key) parent side child =
    (v.stage ≡ Writing false false) × IsAbove v key parent side child
IsCopyPlace v None parent side child = IsBelowTilt v parent side child

-- what both places have
pub record IsHeldLink (v : View) (parent : ℕ) (side : Side) (child : ℕ) : Type 0 where
  pub held : Among parent v.holds
  pub child_is : IsKnown v.words.knows parent (link_field side) child
  pub live : ((parent ≡ 0) × (side ≡ sides.Right))
      ⊎ ((Among parent v.trail.reached) × IsBorn v parent)

-- in a write, with or without its entry
abbrev pub IsWriting : View → Type 0
IsWriting v = (made : Bool) × (counted : Bool) × (v.stage ≡ Writing made counted)
