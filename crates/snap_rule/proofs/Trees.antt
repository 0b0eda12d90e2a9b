-- Searches in trees, and trees that are read from words.
pub mod Ways
pub mod Rows
pub mod Unique
pub mod Orders
pub mod Finds
pub mod Readings
pub mod Paths
pub mod Sizes
pub mod Shallow
use Rattle.std.proofs.Common.{◌≡◌, ℕ, ◌+◌, ◌<◌, ◌≤◌, ◌≢◌, inl, inr, None, refl, ap, sym, ◌∙◌, arith}
use Rattle.std.proofs.lemmas.Bool.Decides.{nat_tests}
use Rattle.snap_rule.specs.Tree.{Node, Tree, root, find, Stands, OnWay, value_word, EachRow, Between}
use Rattle.snap_stamp.specs.Sides.{Toward}
use Rattle.snap_stamp.specs.declared.side.Side.{Side}
use Rattle.snap_stamp.specs.declared.side.Side.TheVariants.{Left, Right}
use Rattle.snap_rule.specs.Tree.Tree.{empty, node}
use Rattle.snap_rule.specs.State.{State, Represents}

-- the subtree of a node on a side
abbrev pub child : Side → Tree → Tree → Tree
child Left a b = a
child Right a b = b

pub find_here : (m : Node) (a b : Tree) (k : ℕ) → m.key ≡ k → find (node m a b) k ≡ m.value
find_here m a b k e = grind (arith, nat_tests)

pub find_left : (m : Node) (a b : Tree) (k : ℕ) → k < m.key → find (node m a b) k ≡ find a k
find_left m a b k e = grind (arith, nat_tests)

pub find_right : (m : Node) (a b : Tree) (k : ℕ) → m.key < k → find (node m a b) k ≡ find b k
find_right m a b k e = grind (arith, nat_tests)

pub find_toward : (d : Side) (m : Node) (a b : Tree) (k : ℕ) → Toward d k m.key → find (node m a b) k ≡ find (child d a b) k
find_toward Left m a b k e = find_left m a b k e
find_toward Right m a b k e = find_right m a b k e

pub way_toward : (d : Side) (m : Node) (a b : Tree) (k r : ℕ) → Toward d k m.key → OnWay (child d a b) k r → OnWay (node m a b) k r
way_toward Left m a b k r e w = inr (inl (e, w))
way_toward Right m a b k r e w = inr (inr (e, w))

pub way_root : (t : Tree) (k : ℕ) → root t ≢ 0 → OnWay t k (root t)
way_root empty k h = absurd (h refl)
way_root (node m a b) k h = inl refl

pub way_stands : (t : Tree) (k n : ℕ) → OnWay t k n → Stands n t
way_stands empty k n w = w
way_stands (node m a b) k n (inl e) = inl e
way_stands (node m a b) k n (inr (inl w)) = inr (inl (way_stands a k n w.1))
way_stands (node m a b) k n (inr (inr w)) = inr (inr (way_stands b k n w.1))

pub reads_child : (s : State) (l : ℕ → Side → ℕ) (d : Side) (m : Node) (a b : Tree) → Represents s l (node m a b)
    → (l m.row d ≡ root (child d a b)) × Represents s l (child d a b)
reads_child s l Left m a b h = (h.1, h.3)
reads_child s l Right m a b h = (h.2, h.4)

pub each_child : (P : ℕ → Type 0) (d : Side) (m : Node) (a b : Tree) → EachRow P (node m a b) → EachRow P (child d a b)
each_child P Left m a b h = h.1
each_child P Right m a b h = h.2

pub each_root : (P : ℕ → Type 0) (t : Tree) → root t ≢ 0 → EachRow P t → P (root t)
each_root P empty h e = absurd (h refl)
each_root P (node m a b) h e = e.0

-- a tree whose top row is 0 has no key
pub find_none : (s : State) (l : ℕ → Side → ℕ) (t : Tree) (k : ℕ) → Represents s l t → root t ≡ 0 → find t k ≡ None
find_none s l empty k r e = refl
find_none s l (node m a b) k r e = absurd (omega (arith, r.0.is_row, e))

pub each_stands : (P : ℕ → Type 0) (t : Tree) → ((n : ℕ) → Stands n t → P n) → EachRow P t
each_stands P empty f = tt
each_stands P (node m a b) f = (f m.row (inl refl), each_stands P a (λ n h. f n (inr (inl h))), each_stands P b (λ n h. f n (inr (inr h))))

-- what a search finds is the value of the row that has the key
pub finds_value : (s : State) (l : ℕ → Side → ℕ) (m : Node) (a b : Tree) (k : ℕ) → Represents s l (node m a b) → s.key m.row ≡ k
    → s.value m.row ≡ value_word (find (node m a b) k)
finds_value s l m a b k r e = r.0.value ∙ ap value_word (sym (find_here m a b k (sym r.0.key ∙ e)))

-- the subtree at a row on the way of a key
pub record SubtreeAt (s : State) (l : ℕ → Side → ℕ) (t : Tree) (k n : ℕ) : Type 0 where
  pub top : Node
  pub on_left : Tree
  pub on_right : Tree
  pub row : top.row ≡ n
  pub reads : Represents s l (node top on_left on_right)
  pub finds : find (node top on_left on_right) k ≡ find t k
  pub stands : (r : ℕ) → Stands r (node top on_left on_right) → Stands r t
  pub way : (r : ℕ) → OnWay (node top on_left on_right) k r → OnWay t k r

subtree_below : (s : State) (l : ℕ → Side → ℕ) (d : Side) (m : Node) (a b : Tree) (k n : ℕ) → Toward d k m.key → SubtreeAt s l (child d a b) k n
    → ((r : ℕ) → Stands r (child d a b) → Stands r (node m a b))
    → SubtreeAt s l (node m a b) k n
subtree_below s l d m a b k n e u f = record {
  top = u.top;
  on_left = u.on_left;
  on_right = u.on_right;
  row = u.row;
  reads = u.reads;
  finds = u.finds ∙ sym (find_toward d m a b k e);
  stands = λ r h. f r (u.stands r h);
  way = λ r w. way_toward d m a b k r e (u.way r w);
}

pub subtree_at : (s : State) (l : ℕ → Side → ℕ) (t : Tree) (k n : ℕ) → Represents s l t → OnWay t k n → SubtreeAt s l t k n
subtree_at s l empty k n r w = absurd w
subtree_at s l (node m a b) k n r (inl e) = record {
  top = m;
  on_left = a;
  on_right = b;
  row = sym e;
  reads = r;
  finds = refl;
  stands = λ q h. h;
  way = λ q h. h;
}
subtree_at s l (node m a b) k n r (inr (inl w)) = subtree_below s l Left m a b k n w.0 (subtree_at s l a k n r.3 w.1) (λ q h. inr (inl h))
subtree_at s l (node m a b) k n r (inr (inr w)) = subtree_below s l Right m a b k n w.0 (subtree_at s l b k n r.4 w.1) (λ q h. inr (inr h))

-- the words of a tree's rows in another state
pub reads_same : (s s' : State) (l l' : ℕ → Side → ℕ) (t : Tree) → Represents s l t
    → ((n : ℕ) → Stands n t → (s'.key n ≡ s.key n) × (s'.value n ≡ s.value n) × (s'.height n ≡ s.height n) × ((d : Side) → l' n d ≡ l n d))
    → Represents s' l' t
reads_same s s' l l' empty r f = tt
reads_same s s' l l' (node m a b) r f =
    let g = f m.row (inl refl) in (
      record { is_row = r.0.is_row; key = g.0 ∙ r.0.key; value = g.1 ∙ r.0.value; height = g.2 ∙ r.0.height },
      g.3 Left ∙ r.1,
      g.3 Right ∙ r.2,
      reads_same s s' l l' a r.3 (λ n h. f n (inr (inl h))),
      reads_same s s' l l' b r.4 (λ n h. f n (inr (inr h))),
    )

pub each_at : (P : ℕ → Type 0) (t : Tree) (n : ℕ) → EachRow P t → Stands n t → P n
each_at P empty n e h = absurd h
each_at P (node m a b) n e (inl q) = rw q e.0
each_at P (node m a b) n e (inr (inl h)) = each_at P a n e.1 h
each_at P (node m a b) n e (inr (inr h)) = each_at P b n e.2 h

pub root_empty : (s : State) (l : ℕ → Side → ℕ) (t : Tree) → Represents s l t → root t ≡ 0 → t ≡ empty
root_empty s l empty r e = refl
root_empty s l (node m a b) r e = absurd (omega (arith, r.0.is_row, e))

-- the keys of a tree's rows are within its bounds
pub key_between : (s : State) (l : ℕ → Side → ℕ) (low high : ℕ) (t : Tree) (n : ℕ) → Between low high t → Represents s l t → Stands n t
    → (low ≤ s.key n) × (s.key n < high)
key_between s l low high empty n b r h = absurd h
key_between s l low high (node m x y) n b r (inl e) = let q : s.key n ≡ m.key = ap s.key e ∙ r.0.key in (omega (arith, b.0), omega (arith, b.1))
key_between s l low high (node m x y) n b r (inr (inl h)) = let q = key_between s l low m.key x n b.2 r.3 h in (q.0, omega (arith, q.1, b.1))
key_between s l low high (node m x y) n b r (inr (inr h)) = let q = key_between s l (m.key + 1) high y n b.3 r.4 h in (omega (arith, q.0, b.0), q.1)

-- each row is on the way of its own key
pub own_way : (s : State) (l : ℕ → Side → ℕ) (low high : ℕ) (t : Tree) (n : ℕ) → Between low high t → Represents s l t → Stands n t → OnWay t (s.key n) n
own_way s l low high empty n b r h = absurd h
own_way s l low high (node m x y) n b r (inl e) = inl e
own_way s l low high (node m x y) n b r (inr (inl h)) = inr (inl ((key_between s l low m.key x n b.2 r.3 h).1, own_way s l low m.key x n b.2 r.3 h))
own_way s l low high (node m x y) n b r (inr (inr h)) = let q = key_between s l (m.key + 1) high y n b.3 r.4 h in inr (inr (omega (arith, q.0), own_way s l (m.key + 1) high y n b.3 r.4 h))

pub row_positive : (s : State) (l : ℕ → Side → ℕ) (t : Tree) (n : ℕ) → Represents s l t → Stands n t → 0 < n
row_positive s l empty n r h = absurd h
row_positive s l (node m a b) n r (inl e) = omega (arith, r.0.is_row, e)
row_positive s l (node m a b) n r (inr (inl h)) = row_positive s l a n r.3 h
row_positive s l (node m a b) n r (inr (inr h)) = row_positive s l b n r.4 h
