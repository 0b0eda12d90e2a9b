-- A table at one moment. Its memory is a function for each field of a row, and a number for each
-- word of the header that the rule reads. Beside it stands what the rule alone speaks of: the
-- history, the tree, and what ties them to the memory.
use Rattle.std.specs.Prelude.{List, [], ℕ, ◌<◌, ◌∷◌, ◌≡◌, ◌⊎◌}
use Rattle.snap_model.specs.declared.call.Entry.{Entry}
use Rattle.snap_stamp.specs.declared.side.Side.{Side}
use Rattle.snap_stamp.specs.declared.side.Side.TheVariants.{Left, Right}
use Rattle.snap_rule.specs.Tree.{EachRow, Node, Tree, root, value_word}
use Rattle.snap_rule.specs.Tree.Tree.{empty, node}

-- what a change in progress has put into a link in place of what the tree has there: nothing; still
-- the unlinked row; already the subtree that the lowered row takes over; already the lowered row,
-- below the raised one
pub data Change : Type 0 where
  plain : Change
  unlinking : ℕ → Change
  lowering : ℕ → Change
  raising : ℕ → Change

pub record State : Type 0 where
  -- the fields of rows
  pub key : ℕ → ℕ
  pub birth : ℕ → ℕ
  pub stamp : ℕ → ℕ
  pub lock : ℕ → ℕ
  pub height : ℕ → ℕ
  pub value : ℕ → ℕ
  pub link : ℕ → Side → ℕ
  -- the header
  pub epoch : ℕ
  pub gate : ℕ
  pub left : ℕ
  -- the history, the tree, the rows that were linked, and those that a copy replaced
  pub history : List Entry
  pub tree : Tree
  pub linked : List ℕ
  pub replaced : List ℕ
  -- the links as the tree has them, and where a change in progress has other words
  pub links : ℕ → Side → ℕ
  pub pending : ℕ → Side → Change
  -- how many passes are in a write
  pub writers : ℕ

-- the part of a state that isn't memory
pub record Beside : Type 0 where
  pub history : List Entry
  pub tree : Tree
  pub linked : List ℕ
  pub replaced : List ℕ
  pub links : ℕ → Side → ℕ
  pub pending : ℕ → Side → Change
  pub writers : ℕ

-- x is an item of the list
abbrev pub In : {A : Type 0} → A → List A → Type 0
In x [] = ⊥
In x (y ∷ ys) = (x ≡ y) ⊎ In x ys

-- row 0, or a row that was linked
abbrev pub WasLinked : State → ℕ → Type 0
WasLinked s n = (n ≡ 0) ⊎ In n s.linked

-- a row that some clone reads: it was filled in an earlier epoch. Row 0 is never shared
pub record IsShared (s : State) (n : ℕ) : Type 0 where
  pub is_row : 0 < n
  pub older : s.birth n < s.epoch

-- the words of a node's row, but for its links, are as the node says
pub record Says (s : State) (n : Node) : Type 0 where
  pub is_row : 0 < n.row
  pub key : s.key n.row ≡ n.key
  pub value : s.value n.row ≡ value_word n.value
  pub height : s.height n.row ≡ n.height

-- the tree is read from the words of its rows, by these links
abbrev pub Represents : State → (ℕ → Side → ℕ) → Tree → Type 0
Represents s l empty = Unit {0}
Represents s l (node n a b) =
    Says s n × (l n.row Left ≡ root a) × (l n.row Right ≡ root b)
    × Represents s l a × Represents s l b

-- the image of a shared row: the tree that is read from it, of shared rows alone
pub record IsImage (s : State) (n : ℕ) (t : Tree) : Type 0 where
  pub top : root t ≡ n
  pub reads : Represents s s.link t
  pub rows : EachRow (λ r. In r s.linked × IsShared s r) t
