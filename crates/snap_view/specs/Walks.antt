-- Walks through the pairs of a clone, toward one side, and what they have left.
use Rattle.std.specs.Prelude.{ℕ, [], Option, Some, None, reverse}
use Rattle.snap_prelude.specs.{after, Cloned, Left, Pairs, range, Right, Side}

-- a walk through this clone toward the side, from the next key on if there is one, up to the bound
pub record Walked : Type 0 where
  pub seat : Cloned
  pub side : Side
  pub next : Option ℕ
  pub bound : ℕ

abbrev pub begun : Cloned → Side → (from bound : ℕ) → Walked
begun seat side from bound = record { seat = seat; side = side; next = Some from; bound = bound }

-- the pairs from a key up to the bound, in the order of a walk toward the side
abbrev pub along : Side → Pairs → (from bound : ℕ) → Pairs
along Left m from bound = reverse (range m bound from)
along Right m from bound = range m from bound

abbrev pub toward : Side → Pairs → (from : Option ℕ) → (bound : ℕ) → Pairs
toward side m None bound = []
toward side m (Some from) bound = along side m from bound

-- the pairs that are still to come, in the order of the walk
abbrev pub pairs_left : Walked → Pairs
pairs_left w = toward w.side (after w.seat.base) w.next w.bound
