-- Balance. A row is settled where its stored height is one more than the larger of those below it,
-- these two differ by at most one, and it holds a value or has two children. In a settled tree of
-- some depth there are many nodes.
use Rattle.std.specs.Prelude.{None, Option, Some, max, min, suc, zero, ℕ, ◌+◌, ◌≡◌, ◌≢◌, ◌≤◌, ◌⊎◌}
use Rattle.snap_stamp.specs.declared.side.Side.{Side}
use Rattle.snap_stamp.specs.declared.side.Side.TheVariants.{Left, Right}
use Rattle.snap_rule.specs.State.{State}
use Rattle.snap_rule.specs.Tree.{Tree}
use Rattle.snap_rule.specs.Tree.Tree.{empty, node}

-- heights end at the greatest word
abbrev pub greatest_height : ℕ
greatest_height = 18446744073709551615

abbrev pub one_more : ℕ → ℕ
one_more h = min (h + 1) greatest_height

-- a height over a left and a right one
pub record IsBalanced (height left right : ℕ) : Type 0 where
  pub sum : height ≡ one_more (max left right)
  pub left_low : left ≤ right + 1
  pub right_low : right ≤ left + 1

-- the stored height of a child, 0 for none
abbrev pub height_at : (ℕ → ℕ) → ℕ → ℕ
height_at f zero = 0
height_at f (suc r) = f (suc r)

abbrev pub child_height : State → ℕ → Side → ℕ
child_height s n d = height_at s.height (s.links n d)

-- a row, by its words and the links that the tree has
abbrev pub IsSettled : State → ℕ → Type 0
IsSettled s n = IsBalanced (s.height n) (child_height s n Left) (child_height s n Right)
    × ((s.value n ≢ 0) ⊎ (s.links n Left ≢ 0) × (s.links n Right ≢ 0))

-- a tree, by its nodes
abbrev pub top_height : Tree → ℕ
top_height empty = 0
top_height (node n a b) = n.height

abbrev pub HasValue : Option ℕ → Type 0
HasValue None = ⊥
HasValue (Some v) = Unit {0}

abbrev pub IsFull : Tree → Type 0
IsFull empty = ⊥
IsFull (node n a b) = Unit {0}

abbrev pub IsSettledTree : Tree → Type 0
IsSettledTree empty = Unit {0}
IsSettledTree (node n a b) = IsBalanced n.height (top_height a) (top_height b)
    × (HasValue n.value ⊎ IsFull a × IsFull b)
    × IsSettledTree a
    × IsSettledTree b

-- the least number of nodes of a settled tree of some depth
abbrev pub least : ℕ → ℕ
least zero = 0
least (suc zero) = 1
least (suc (suc d)) = least (suc d) + least d + 1
