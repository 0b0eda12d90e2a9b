-- Clones: the tree of a clone, in the parts in which a view keeps it, and what is known of it.
use Rattle.std.specs.Prelude.{◌<◌, ◌≡◌, ◌≤◌, ◌⊎◌, ℕ, ◌^◌, Bool, List, [], ◌∷◌, ◌++◌, length}
use Rattle.atomic_table.specs.Seated.{TableId}
use Rattle.snap_model.specs.History.{IsLegal, after}
use Rattle.snap_model.specs.declared.call.Entry.{Entry}
use Rattle.snap_rule.specs.Settled.{IsSettledTree}
use Rattle.snap_rule.specs.Tree.{EachRow, size, Tree, Node, Between, pairs, root, value_word}
use Rattle.snap_rule.specs.Tree.Tree.{empty, node}
use Rattle.snap_stamp.specs.declared.layout.Field.{Field}
use Rattle.snap_stamp.specs.declared.layout.Field.TheVariants.{Key, Birth, Stamp, Lock, Height, Left, Right, Value}
use Rattle.snap_steps.specs.declared.view.Balance.{Balance}
use Rattle.snap_steps.specs.declared.view.Balance.TheVariants.{Settled, RowsOut, StampOut}
use Rattle.snap_steps.specs.declared.view.WordNote.{WordNote}
use Rattle.snap_steps.specs.declared.view.WordNote.TheVariants.{Next}
use Rattle.snap_steps.specs.declared.view.Part.{Part}
use Rattle.snap_steps.specs.declared.view.Part.TheVariants.{Nothing, Top}
use Rattle.snap_steps.specs.declared.view.View.{View}

-- a tree in its parts, from the leaves up
abbrev pub parts_of : Tree → List Part
parts_of empty = Nothing ∷ []
parts_of (node n a b) = parts_of a ++ (parts_of b ++ Top n.row n.key n.value n.height ∷ [])

-- the trees that parts make, the last one first
abbrev pub built : List Part → List Tree → List Tree
built [] trees = trees
built (Nothing ∷ more) trees = built more (empty ∷ trees)
built (Top row key value height ∷ more) [] = built more []
built (Top row key value height ∷ more) (b ∷ []) = built more (b ∷ [])
built (Top row key value height ∷ more) (b ∷ a ∷ trees) =
    built more (node (record { row = row; key = key; value = value; height = height }) a b ∷ trees)

abbrev pub first_tree : List Tree → Tree
first_tree [] = empty
first_tree (t ∷ trees) = t

-- the tree that these parts make
unfoldable pub tree_of : List Part → Tree
tree_of parts = first_tree (built parts [])

-- the tree of the clone that a seat reads, or that its pass has cut
abbrev pub image_of : View → Tree
image_of v = tree_of v.base.parts

-- the tree tells the map after a legal history, whose length a word holds, and its keys rise
pub record IsCloneOf (history : List Entry) (t : Tree) : Type 0 where
  pub legal : IsLegal history
  pub ordered : Between 0 (2 ^ 64) t
  pub tells : pairs t ≡ after history
  pub short : length history < 2 ^ 64

-- each row of the tree is one of a table of this size
abbrev pub ArePlaced : ℕ → Tree → Type 0
ArePlaced rows t = EachRow (λ r. (0 < r) × (r ≤ rows)) t

-- where so many rows of as many were handed out, the tree is settled, or every row was, or the row
-- was whose stamp is at its greatest count
abbrev pub IsCaused : (rows next : ℕ) → Tree → Balance → Type 0
IsCaused rows next t Settled = IsSettledTree t
IsCaused rows next t RowsOut = rows ≤ next
IsCaused rows next t (StampOut row) = (0 < row) × (row ≤ next)

-- so it is, and no more rows stand in the tree than were handed out
pub record IsWeighed (rows next : ℕ) (t : Tree) (balance : Balance) : Type 0 where
  pub caused : IsCaused rows next t balance
  pub few : size t ≤ next
  pub low : next ≤ rows

-- the seat of a clone: its table and how many rows that has, the history and, in its parts, the
-- tree at the cut, how many rows were handed out then and whether the tree is settled, the word
-- `next` as it was loaded since, the greatest `next` and `epoch` that its pass had noted, whether
-- the pass or the seat noted a stamp at its greatest count, and the rows with such a stamp that the
-- seat found
pub record Cloned : Type 0 where
  pub table : TableId
  pub rows : ℕ
  pub base : List Entry
  pub parts : List Part
  pub drawn : ℕ
  pub balance : Balance
  pub next : ℕ
  pub handed : ℕ
  pub epochs : ℕ
  pub worn : Bool
  pub outworn : List ℕ

-- the clone's tree
abbrev pub image : Cloned → Tree
image c = tree_of c.parts

-- the load of `next` is noted, and was made since the cut
pub record IsNotedSince (v : View) (next : ℕ) : Type 0 where
  pub before : List WordNote
  pub after : List WordNote
  pub is : v.noted.notes ≡ before ++ Next next ∷ after
  pub since : v.base.noted ≤ length before

-- u is the tree t, or stands below its top
abbrev pub IsSubtree : Tree → Tree → Type 0
IsSubtree u empty = u ≡ empty
IsSubtree u (node n a b) = (u ≡ node n a b) ⊎ IsSubtree u a ⊎ IsSubtree u b

-- the word that the row of this node has in the field; of birth, stamp and lock nothing is said
abbrev pub NodeHas : Node → Tree → Tree → Field → ℕ → Type 0
NodeHas n a b Key x = x ≡ n.key
NodeHas n a b Birth x = Unit {0}
NodeHas n a b Stamp x = Unit {0}
NodeHas n a b Lock x = Unit {0}
NodeHas n a b Height x = x ≡ n.height
NodeHas n a b Left x = x ≡ root a
NodeHas n a b Right x = x ≡ root b
NodeHas n a b Value x = x ≡ value_word n.value

-- a field that is a link
abbrev pub IsLink : Field → Type 0
IsLink f = (f ≡ Left) ⊎ (f ≡ Right)

-- a link leads to a row of the table
abbrev pub FitsLink : ℕ → Field → ℕ → Type 0
FitsLink rows Key x = Unit {0}
FitsLink rows Birth x = Unit {0}
FitsLink rows Stamp x = Unit {0}
FitsLink rows Lock x = Unit {0}
FitsLink rows Height x = Unit {0}
FitsLink rows Left x = x ≤ rows
FitsLink rows Right x = x ≤ rows
FitsLink rows Value x = Unit {0}

-- the word is that of the tree's node of this row
abbrev pub TellsWord : ℕ → Tree → ℕ → Field → ℕ → Type 0
TellsWord rows t row f x = (n : Node) (a b : Tree) → IsSubtree (node n a b) t → n.row ≡ row
    → NodeHas n a b f x × FitsLink rows f x
