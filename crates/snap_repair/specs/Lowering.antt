-- Where a row leans, and the copies that its rotation wants.
pub use Rattle.snap_copy.specs.Lowering.{LacksRows, OwnsLower, WantsCopy}
use Rattle.std.specs.Prelude.{◌≢◌, ◌<◌, ℕ}
use Rattle.snap_shape.specs.Grips.{Leads}
use Rattle.snap_prelude.specs.{HasHeight, other, Side, View}

-- the held row has a child on the side
abbrev pub HasChildOn : View → ℕ → Side → Type 0
HasChildOn v r d = (child : ℕ) × (child ≢ 0) × Leads v r d child

-- its stored height on the side is greater than on the other
pub record IsHigher (v : View) (r : ℕ) (d : Side) : Type 0 where
  pub high : ℕ
  pub low : ℕ
  pub is_high : HasHeight v r d high
  pub is_low : HasHeight v r (other d) low
  pub less : low < high
