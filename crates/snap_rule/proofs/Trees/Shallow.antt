-- A settled tree is shallow.
use Rattle.std.proofs.Common.{◌≡◌, ℕ, zero, suc, ◌+◌, ◌*◌, ◌≤◌, ◌⊎◌, max, inl, inr, length, length-append, Option, Some, None, refl, add-one, arith}
use Rattle.std.proofs.lemmas.Bool.{cases_lt, cases_eq}
use Rattle.snap_rule.specs.Tree.{Node, Tree, depth, size, entry, pairs}
use Rattle.snap_rule.specs.Tree.Tree.{empty, node}
use Rattle.snap_rule.proofs.Trees.Sizes.{depth_size}
use Rattle.snap_rule.specs.Settled.{top_height, HasValue, IsFull, IsSettledTree, least}

pub least_more : (d : ℕ) → least d ≤ least (suc d)
least_more zero = omega arith
least_more (suc zero) = omega arith
least_more (suc (suc d)) = omega (arith, least_more (suc d), least_more d)

least_step : (x y : ℕ) → y ≤ x → x ≤ y + 1 → least (x + 1) ≤ least x + least y + 1
least_step zero y h k = rw add-one (omega arith)
least_step (suc x) y h k = rw add-one (elim (cases_eq y x) [
  | inl e ↦ rw e (omega arith)
  | inr d ↦ (let e : y ≡ suc x = omega arith in rw e (omega (arith, least_more x)))
])

least_node : (x y c d : ℕ) → least x ≤ c → least y ≤ d → x ≤ y + 1 → y ≤ x + 1 → least (max x y + 1) ≤ c + d + 1
least_node x y c d i j u v = elim (cases_lt x y) [
  | inl l ↦ (let e : max x y ≡ y = omega arith in rw e (omega (arith, least_step y x (omega arith) v)))
  | inr l ↦ (let e : max x y ≡ x = omega arith in rw e (omega (arith, least_step x y l u)))
]

-- in a settled tree that is not too large, stored heights are the real ones
pub height_real : (t : Tree) → IsSettledTree t → depth t ≤ 18446744073709551615 → top_height t ≡ depth t
height_real empty h l = refl
height_real (node n a b) h l =
    let p = height_real a h.2 (omega arith) in
    let q = height_real b h.3 (omega arith) in
    omega (arith, h.0.sum, p, q)

-- and it has at least so many nodes
pub least_size : (t : Tree) → IsSettledTree t → depth t ≤ 18446744073709551615 → least (depth t) ≤ size t
least_size empty h l = omega arith
least_size (node n a b) h l =
    let p = height_real a h.2 (omega arith) in
    let q = height_real b h.3 (omega arith) in
    let i = least_size a h.2 (omega arith) in
    let j = least_size b h.3 (omega arith) in
    least_node (depth a) (depth b) (size a) (size b) i j (omega (arith, h.0.left_low, p, q)) (omega (arith, h.0.right_low, p, q))

-- nodes without a value are fewer than those with one
pub size_pairs : (t : Tree) → IsSettledTree t → (size t ≤ 2 * length (pairs t)) × (IsFull t → size t + 1 ≤ 2 * length (pairs t))
size_pairs empty h = (omega arith, λ z. absurd z)
size_pairs (node n a b) h = size_node n a b h.1 (size_pairs a h.2) (size_pairs b h.3)
  where
    entry_length : (k : ℕ) (o : Option ℕ) → HasValue o → length (entry k o) ≡ 1
    entry_length k None z = absurd z
    entry_length k (Some v) z = refl

    size_node : (n : Node) (a b : Tree) → HasValue n.value ⊎ IsFull a × IsFull b
        → (size a ≤ 2 * length (pairs a)) × (IsFull a → size a + 1 ≤ 2 * length (pairs a))
        → (size b ≤ 2 * length (pairs b)) × (IsFull b → size b + 1 ≤ 2 * length (pairs b))
        → (size (node n a b) ≤ 2 * length (pairs (node n a b))) × (IsFull (node n a b) → size (node n a b) + 1 ≤ 2 * length (pairs (node n a b)))
    size_node n a b (inl v) p q = let e = entry_length n.key n.value v in rw (length-append, length-append) (omega (arith, e, p.0, q.0), λ z. omega (arith, e, p.0, q.0))
    size_node n a b (inr v) p q = let i = p.1 v.0 in let j = q.1 v.1 in rw (length-append, length-append) (omega (arith, i, j), λ z. omega (arith, i, j))

-- a settled tree is as deep as an AVL tree of twice its pairs at most
pub settled_shallow : (t : Tree) → IsSettledTree t → size t ≤ 18446744073709551615 → least (depth t) ≤ 2 * length (pairs t)
settled_shallow t h l = omega (arith, least_size t h (omega (arith, depth_size t, l)), (size_pairs t h).0)
