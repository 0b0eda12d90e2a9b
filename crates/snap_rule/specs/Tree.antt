-- A search tree whose nodes have row numbers, and what is read off it: the value at a key, the rows
-- on the way to a key, the order of its keys. A tree is a value of its own and reads no memory. A
-- node without a value is a routing node.
use Rattle.std.specs.Prelude.{None, Option, Some, [], if◌then◌else◌, max, nat_lt, suc, zero, ℕ, ◌++◌, ◌+◌, ◌<◌, ◌==◌, ◌∷◌, ◌≡◌, ◌≤◌, ◌⊎◌}
use Rattle.snap_model.specs.SortedMap.{Pairs}

pub record Node : Type 0 where
  pub row : ℕ
  pub key : ℕ
  pub value : Option ℕ
  pub height : ℕ

pub data Tree : Type 0 where
  empty : Tree
  node : Node → Tree → Tree → Tree

-- the row at the top, 0 for none
abbrev pub root : Tree → ℕ
root empty = 0
root (node n a b) = n.row

-- the value at the end of the search for a key
abbrev pub find : Tree → ℕ → Option ℕ
find empty k = None
find (node n a b) k = if n.key == k then n.value else if nat_lt k n.key then find a k else find b k

-- a node of the tree has this row
abbrev pub Stands : ℕ → Tree → Type 0
Stands m empty = ⊥
Stands m (node n a b) = (m ≡ n.row) ⊎ Stands m a ⊎ Stands m b

-- the search for k passes this row or ends at it: k lies in the row's range
abbrev pub OnWay : Tree → ℕ → ℕ → Type 0
OnWay empty k m = ⊥
OnWay (node n a b) k m = (m ≡ n.row) ⊎ (k < n.key) × OnWay a k m ⊎ (n.key < k) × OnWay b k m

-- every key is at least low and below high, and the keys rise from left to right
abbrev pub Between : ℕ → ℕ → Tree → Type 0
Between low high empty = Unit {0}
Between low high (node n a b) =
    (low ≤ n.key) × (n.key < high) × Between low n.key a × Between (n.key + 1) high b

-- each row of the tree has the property
abbrev pub EachRow : (ℕ → Type 0) → Tree → Type 0
EachRow P empty = Unit {0}
EachRow P (node n a b) = P n.row × EachRow P a × EachRow P b

-- how many nodes stand on the longest way down, and in all
abbrev pub depth : Tree → ℕ
depth empty = 0
depth (node n a b) = max (depth a) (depth b) + 1

abbrev pub size : Tree → ℕ
size empty = 0
size (node n a b) = size a + size b + 1

-- the pairs of the nodes that have a value, from left to right
abbrev pub entry : ℕ → Option ℕ → Pairs
entry k None = []
entry k (Some v) = (k, v) ∷ []

abbrev pub pairs : Tree → Pairs
pairs empty = []
pairs (node n a b) = pairs a ++ (entry n.key n.value ++ pairs b)

-- the word that stores an optional value, and back
abbrev pub value_word : Option ℕ → ℕ
value_word None = 0
value_word (Some v) = suc v

abbrev pub value_of : ℕ → Option ℕ
value_of zero = None
value_of (suc v) = Some v
