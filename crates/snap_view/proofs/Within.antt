-- Trees within a tree.
use Rattle.std.proofs.Common.{◌≡◌, ◌≢◌, inl, inr, ℕ, ◌+◌, ◌<◌, ◌≤◌, true, false, cond, eqb, ltb, leb, eq-eqb, ne_eqb, lt-ltb, le-ltb, Option, Some, None, refl, sym, ap, ◌∙◌, subst, arith, max}
use Rattle.snap_prelude.proofs.Common.{cases_order, child, find_left, find_right, le-leb, lt-leb}
use Rattle.snap_prelude.specs.{ArePlaced, Between, CopiesRow, depth, EachRow, empty, find, IsCopyOf}
use Rattle.snap_prelude.specs.{IsSubtree, Left, Node, node, Right, root, RowCopy, Side, Stands, Tree}
use Rattle.snap_view.specs.{Nearest.on, Nearest.turn, Tops.HasTree, Tops.IsTopOf}

pub within_itself : (t : Tree) → IsSubtree t t
within_itself empty = refl
within_itself (node n a b) = inl refl

-- the two subtrees of a tree within t are within t
pub within_below : (t : Tree) (n : Node) (a b : Tree) → IsSubtree (node n a b) t → IsSubtree a t × IsSubtree b t
within_below empty n a b e = absurd (cc e)
within_below (node m x y) n a b (inl e) =
    let left : a ≡ x = cc in let right : b ≡ y = cc in
    (subst (λ (z : Tree). IsSubtree z (node m x y)) (sym left) (inr (inl (within_itself x))), subst (λ (z : Tree). IsSubtree z (node m x y)) (sym right) (inr (inr (within_itself y))))
within_below (node m x y) n a b (inr (inl w)) = let h = within_below x n a b w in (inr (inl h.0), inr (inl h.1))
within_below (node m x y) n a b (inr (inr w)) = let h = within_below y n a b w in (inr (inr h.0), inr (inr h.1))

pub within_each : (P : ℕ → Type 0) (t u : Tree) → IsSubtree u t → EachRow P t → EachRow P u
within_each P empty u e r = subst (EachRow P) (sym e) r
within_each P (node n a b) u (inl e) r = subst (EachRow P) (sym e) r
within_each P (node n a b) u (inr (inl w)) r = within_each P a u w r.1
within_each P (node n a b) u (inr (inr w)) r = within_each P b u w r.2

pub within_stands : (t : Tree) (n : Node) (a b : Tree) → IsSubtree (node n a b) t → Stands n.row t
within_stands empty n a b e = absurd (cc e)
within_stands (node m x y) n a b (inl e) = let same : n ≡ m = cc in inl (ap (λ (z : Node). z.row) same)
within_stands (node m x y) n a b (inr (inl w)) = inr (inl (within_stands x n a b w))
within_stands (node m x y) n a b (inr (inr w)) = inr (inr (within_stands y n a b w))

pub within_keys : (low high : ℕ) (t : Tree) (n : Node) (a b : Tree) → Between low high t → IsSubtree (node n a b) t → (low ≤ n.key) × (n.key < high)
within_keys low high empty n a b h e = absurd (cc e)
within_keys low high (node m x y) n a b h (inl e) = let same : n ≡ m = cc in let key : n.key ≡ m.key = ap (λ (z : Node). z.key) same in (omega (arith, key, h.0), omega (arith, key, h.1))
within_keys low high (node m x y) n a b h (inr (inl w)) = let k = within_keys low m.key x n a b h.2 w in (k.0, omega (arith, k.1, h.1))
within_keys low high (node m x y) n a b h (inr (inr w)) = let k = within_keys (m.key + 1) high y n a b h.3 w in (omega (arith, k.0, h.0), k.1)

-- the tree below which a key is looked for
abbrev pub under : Tree → ℕ → Tree
under empty k = empty
under (node n a b) k = cond (eqb n.key k) (node n a b) (cond (ltb k n.key) (under a k) (under b k))

-- in an ordered tree this is the one with the key at its top
pub under_is : (low high : ℕ) (t : Tree) (n : Node) (a b : Tree) → Between low high t → IsSubtree (node n a b) t → under t n.key ≡ node n a b
under_is low high empty n a b h e = absurd (cc e)
under_is low high (node m x y) n a b h (inl e) = let same : m ≡ n = cc in let g : eqb m.key n.key ≡ true = eq-eqb m.key n.key (ap (λ (z : Node). z.key) same) in rw g (sym e)
under_is low high (node m x y) n a b h (inr (inl w)) =
    let k = within_keys low m.key x n a b h.2 w in
    let g : eqb m.key n.key ≡ false = ne_eqb m.key n.key (λ e. omega (arith, e, k.1)) in let l : ltb n.key m.key ≡ true = lt-ltb n.key m.key k.1 in rw g (rw l (under_is low m.key x n a b h.2 w))
under_is low high (node m x y) n a b h (inr (inr w)) =
    let k = within_keys (m.key + 1) high y n a b h.3 w in
    let g : eqb m.key n.key ≡ false = ne_eqb m.key n.key (λ e. omega (arith, e, k.0)) in let l : ltb n.key m.key ≡ false = le-ltb n.key m.key (omega (arith, k.0)) in rw g (rw l (under_is (m.key + 1) high y n a b h.3 w))

-- how far down it goes below a copy
abbrev pub levels_below : Tree → Option RowCopy → ℕ
levels_below t None = 0
levels_below t (Some copy) = depth (under t copy.key)

pub levels_are : (low high : ℕ) (t u : Tree) (here : Option RowCopy) → Between low high t → IsSubtree u t → IsTopOf u here → levels_below t here ≡ depth u
levels_are low high t u None h w top = sym (ap depth top)
levels_are low high t u (Some copy) h w top =
    let within : IsSubtree (node top.top top.left top.right) t = subst (λ (z : Tree). IsSubtree z t) top.is w in
    ap (λ (k : ℕ). depth (under t k)) top.copied.key ∙ ap depth (under_is low high t top.top top.left top.right h within ∙ sym top.is)

-- the subtree below a node on the way to the row nearest to `from`, whose row is the copy's link
abbrev pub next_tree : Side → ℕ → Node → Tree → Tree → Tree
next_tree side from n a b = child (turn side from n.key) a b

pub next_within : (t : Tree) (n : Node) (a b : Tree) (side : Side) (from : ℕ) → IsSubtree (node n a b) t → IsSubtree (next_tree side from n a b) t
next_within t n a b side from w = go (turn side from n.key) (within_below t n a b w)
  where
    go : (s : Side) → IsSubtree a t × IsSubtree b t → IsSubtree (child s a b) t
    go Left h = h.0
    go Right h = h.1

pub next_root : (n : Node) (a b : Tree) (copy : RowCopy) (side : Side) (from : ℕ) → IsCopyOf n a b copy → root (next_tree side from n a b) ≡ on (turn side from copy.key) copy.left copy.right
next_root n a b copy side from c = go (turn side from n.key) ∙ ap (λ (x : ℕ). on (turn side from x) copy.left copy.right) (sym c.key)
  where
    go : (s : Side) → root (child s a b) ≡ on s copy.left copy.right
    go Left = sym c.left
    go Right = sym c.right

pub next_depth : (n : Node) (a b : Tree) (side : Side) (from : ℕ) → depth (next_tree side from n a b) + 1 ≤ depth (node n a b)
next_depth n a b side from = go (turn side from n.key)
  where
    go : (s : Side) → depth (child s a b) + 1 ≤ max (depth a) (depth b) + 1
    go Left = omega arith
    go Right = omega arith

-- where a key is looked for, that way is the key's own
pub next_find : (n : Node) (a b : Tree) (k : ℕ) → n.key ≢ k → find (node n a b) k ≡ find (next_tree Right k n a b) k
next_find n a b k ne = elim (cases_order k n.key) [
  | inl e ↦ absurd (ne (sym e))
  | inr (inl l) ↦ (let g : leb k n.key ≡ true = le-leb k n.key (omega arith) in rw g (find_left n a b k l))
  | inr (inr l) ↦ (let g : leb k n.key ≡ false = lt-leb k n.key l in rw g (find_right n a b k l))
]

-- no row, no tree
pub empty_at : (rows : ℕ) (t u : Tree) → ArePlaced rows t → IsSubtree u t → root u ≡ 0 → u ≡ empty
empty_at rows t empty p w z = refl
empty_at rows t (node n a b) p w z = let each = within_each (λ r. (0 < r) × (r ≤ rows)) t (node n a b) w p in absurd (omega (arith, each.0.0, z))

-- a row, and its node
pub top_at : (rows : ℕ) (t : Tree) (row : ℕ) → ArePlaced rows t → HasTree t row → row ≢ 0 → Stands row t × (row ≤ rows)
top_at rows t row p h ne = go h.tree h.within h.at
  where
    go : (u : Tree) → IsSubtree u t → root u ≡ row → Stands row t × (row ≤ rows)
    go empty w z = absurd (ne (sym z))
    go (node n a b) w z = let each = within_each (λ r. (0 < r) × (r ≤ rows)) t (node n a b) w p in (subst (λ (r : ℕ). Stands r t) z (within_stands t n a b w), omega (arith, each.0.1, z))

-- a row or none
pub low_row : (rows : ℕ) (t : Tree) (row : ℕ) → ArePlaced rows t → HasTree t row → row ≤ rows
low_row rows t row p h = go h.tree h.within h.at
  where
    go : (u : Tree) → IsSubtree u t → root u ≡ row → row ≤ rows
    go empty w z = omega (arith, z)
    go (node n a b) w z = let each = within_each (λ r. (0 < r) × (r ≤ rows)) t (node n a b) w p in omega (arith, each.0.1, z)

pub copied_top : (t : Tree) (row : ℕ) (copy : RowCopy) → row ≢ 0 → CopiesRow t row copy → (u : Tree) → IsSubtree u t → root u ≡ row → IsTopOf u (Some copy)
copied_top t row copy ne c empty w z = absurd (ne (sym z))
copied_top t row copy ne c (node n a b) w z = record { top = n; left = a; right = b; is = refl; copied = c n a b w z }
