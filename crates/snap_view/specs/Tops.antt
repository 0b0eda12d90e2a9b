-- Trees within a clone's, by the copies of their top rows.
use Rattle.std.specs.Prelude.{◌≡◌, ℕ, ◌<◌, ◌≤◌, Option, Some, None}
use Rattle.snap_prelude.specs.{depth, empty, IsCopyOf, IsSubtree, Node, node, root, RowCopy, Tree}

-- the copy is of the top of the tree
pub record HasTop (t : Tree) (copy : RowCopy) : Type 0 where
  pub top : Node
  pub left : Tree
  pub right : Tree
  pub is : t ≡ node top left right
  pub copied : IsCopyOf top left right copy

-- the copy is of the top of the tree, and there is none of an empty one
abbrev pub IsTopOf : Tree → Option RowCopy → Type 0
IsTopOf t None = t ≡ empty
IsTopOf t (Some copy) = HasTop t copy

-- a tree within t stands at this row, or an empty one where it is 0
pub record HasTree (t : Tree) (row : ℕ) : Type 0 where
  pub tree : Tree
  pub within : IsSubtree tree t
  pub at : root tree ≡ row

-- how many rows were read for it
abbrev pub rows_read : Option RowCopy → ℕ
rows_read None = 0
rows_read (Some copy) = 1

-- the depth of a tree, or none where it has more levels than these
abbrev pub IsDepthOf : Tree → (levels : ℕ) → Option ℕ → Type 0
IsDepthOf t levels (Some d) = (d ≡ depth t) × (d ≤ levels)
IsDepthOf t levels None = levels < depth t
