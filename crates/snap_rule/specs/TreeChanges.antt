-- What the kinds of step do to a tree, each as a function that looks for a row: another value or
-- height at it, another row in its place, the row taken out, its child raised above it, a leaf hung
-- below it.
use Rattle.std.specs.Prelude.{Option, if◌then◌else◌, ℕ, ◌==◌}
use Rattle.snap_model.specs.History.{call_key, call_value}
use Rattle.snap_model.specs.declared.call.Entry.{Entry}
use Rattle.snap_stamp.specs.declared.side.Side.{Side}
use Rattle.snap_stamp.specs.declared.side.Side.TheVariants.{Left, Right}
use Rattle.snap_rule.specs.Tree.{Node, Tree}
use Rattle.snap_rule.specs.Tree.Tree.{empty, node}

-- another value at row r
abbrev pub with_value : ℕ → Option ℕ → Tree → Tree
with_value r o empty = empty
with_value r o (node m a b) = node (record m { value = if m.row == r then o else m.value })
    (with_value r o a) (with_value r o b)

-- another height at row r
abbrev pub with_height : ℕ → ℕ → Tree → Tree
with_height r h empty = empty
with_height r h (node m a b) = node (record m { height = if m.row == r then h else m.height })
    (with_height r h a) (with_height r h b)

-- row q in the place of row r
abbrev pub renamed : ℕ → ℕ → Tree → Tree
renamed r q empty = empty
renamed r q (node m a b) =
    node (record m { row = if m.row == r then q else m.row }) (renamed r q a) (renamed r q b)

-- without row r, which has one child or none
abbrev pub one_of : Tree → Tree → Tree
one_of empty b = b
one_of (node m x y) b = node m x y

abbrev pub without : ℕ → Tree → Tree
without r empty = empty
without r (node m a b) = if m.row == r then one_of a b else node m (without r a) (without r b)

-- the child of row r on side d raised above row r
abbrev pub turned : Side → Node → Tree → Tree → Tree
turned Left m empty b = node m empty b
turned Left m (node p x y) b = node p x (node m y b)
turned Right m a empty = node m a empty
turned Right m a (node p x y) = node p (node m a x) y

abbrev pub rotated : ℕ → Side → Tree → Tree
rotated r d empty = empty
rotated r d (node m a b) =
    if m.row == r then turned d m a b else node m (rotated r d a) (rotated r d b)

-- the leaf of a call on row r
abbrev pub leaf_of : ℕ → Entry → Node
leaf_of row e = record { row = row; key = call_key e.call; value = call_value e.call; height = 1 }

-- leaf l below row r, where no child stands on side d yet
abbrev pub first_on : Side → Node → Tree → Tree → Node → Tree
first_on Left m empty b l = node m (node l empty empty) b
first_on Left m (node p x y) b l = node m (node p x y) b
first_on Right m a empty l = node m a (node l empty empty)
first_on Right m a (node p x y) l = node m a (node p x y)

abbrev pub grown_below : ℕ → Side → Node → Tree → Tree
grown_below r d l empty = empty
grown_below r d l (node m a b) =
    if m.row == r then first_on d m a b l else node m (grown_below r d l a) (grown_below r d l b)

-- the same, where an empty tree gets the leaf as its root
abbrev pub grown : ℕ → Side → Node → Tree → Tree
grown r d l empty = node l empty empty
grown r d l (node m a b) = grown_below r d l (node m a b)
