-- The rows of a tree that lie ahead of a walk: those on the way down to the row nearest to a key at
-- which the way turns back.
use Rattle.std.specs.Prelude.{◌≡◌, ℕ, ◌+◌, ◌<◌, ◌⊎◌, true, false, List, [], ◌∷◌, ◌++◌, length, Option, Some, None, if◌then◌else◌}
use Rattle.snap_prelude.specs.{depth, empty, node, root, RowCopy, Side, Tree}
use Rattle.snap_view.specs.{Nearest.IsBehind, Nearest.on, Nearest.reaches, Nearest.turn, declared.ahead.Ahead.Ahead}
use Rattle.snap_view.specs.{declared.ahead.RowsAhead.RowsAhead}

-- a walk keeps no more rows than these
abbrev pub most_levels : ℕ
most_levels = 64

abbrev pub if_ahead : Side → ℕ → Ahead → List Ahead
if_ahead side from x = if reaches side from x.key then x ∷ [] else []

-- from the top down
abbrev pub rows_ahead : Side → ℕ → Tree → List Ahead
rows_ahead side from empty = []
rows_ahead side from (node n a b) = if_ahead side from
    (record { key = n.key; value = n.value; beyond = on side (root a) (root b) })
    ++ on (turn side from n.key) (rows_ahead side from a) (rows_ahead side from b)

-- a copy's row, if it lies ahead
abbrev pub met : Side → ℕ → RowCopy → List Ahead
met side from copy = if_ahead side from
    (record { key = copy.key; value = copy.value; beyond = on side copy.left copy.right })

-- so many rows were added, or they are lost, since they were too many
pub record AddsAhead (old new : RowsAhead) (more : List Ahead) : Type 0 where
  pub kept : new.lost ≡ false → (old.lost ≡ false) × (new.rows.items ≡ old.rows.items ++ more)
  pub lost : new.lost ≡ true
      → (old.lost ≡ true) ⊎ (most_levels < length old.rows.items + length more)

-- the rows are those that lie ahead from this key on, and only in a deep tree they are lost
pub record AreAhead (side : Side) (from : ℕ) (t : Tree) (ahead : RowsAhead) : Type 0 where
  pub kept : ahead.lost ≡ false → ahead.rows.items ≡ rows_ahead side from t
  pub lost : ahead.lost ≡ true → most_levels < depth t

-- the same from a next key on, if there is one
abbrev pub AreAheadOf : Side → Option ℕ → Tree → RowsAhead → Type 0
AreAheadOf side None t ahead = Unit {0}
AreAheadOf side (Some from) t ahead = AreAhead side from t ahead

-- the same behind a row that was passed, if there is one: from whatever key is the next
abbrev pub ArePassed : {A : Type 0} → Side → Tree → Option (ℕ × A) → RowsAhead → Type 0
ArePassed side t None ahead = Unit {0}
ArePassed side t (Some p) ahead =
    (next : Option ℕ) → IsBehind side p.0 next → AreAheadOf side next t ahead
