-- Rows without a value in a settled tree: the next row behind one of them has a value, so two ways down find a pair.
use Rattle.std.proofs.Common.{◌≡◌, ℕ, ◌+◌, ◌≤◌, ◌^◌, ◌⊎◌, inl, inr, true, false, leb, Option, Some, None, refl, sym, ap, ◌∙◌, subst, arith}
use Rattle.snap_prelude.proofs.Common.{le-leb, lt-leb}
use Rattle.snap_prelude.specs.{Between, depth, empty, HasValue, IsFull, IsSettledTree}
use Rattle.snap_prelude.specs.{Left, node, other, Right, Side, Toward, Tree}
use Rattle.snap_view.specs.Nearest.{ReachesAll, reaches, IsBehind, on, nearer_or, nearest_row}
use Rattle.snap_view.proofs.Nearing.{reaches_tells, Stays, row_stays}

-- it is a row with a value
abbrev pub IsValued : Option (ℕ × Option ℕ) → Type 0
IsValued None = ⊥
IsValued (Some p) = HasValue p.1

valued_or : (o p : Option (ℕ × Option ℕ)) → IsValued o → IsValued (nearer_or o p)
valued_or None p v = absurd v
valued_or (Some q) p v = v

abbrev row_of : Option (ℕ × Option ℕ) → ℕ × Option ℕ
row_of None = (0, None)
row_of (Some p) = p

-- all keys in these bounds are reached
abbrev Covers : Side → ℕ → ℕ → ℕ → Type 0
Covers Left from low high = high ≤ from + 1
Covers Right from low high = from ≤ low

-- then the nearest row is the outermost, which has no two children
whole_valued : (side : Side) (from low high : ℕ) (t : Tree) → Between low high t → IsSettledTree t → IsFull t → Covers side from low high → IsValued (nearest_row side from t)
whole_valued side from low high empty h s full c = absurd full
whole_valued Right from low high (node n empty b) h s full c = let r : leb from n.key ≡ true = le-leb from n.key (omega (arith, h.0)) in rw r (own s.1)
  where
    own : HasValue n.value ⊎ (IsFull empty × IsFull b) → HasValue n.value
    own (inl v) = v
    own (inr f) = absurd f.0
whole_valued Right from low high (node n (node m x y) b) h s full c = let r : leb from n.key ≡ true = le-leb from n.key (omega (arith, h.0)) in
    rw r (valued_or (nearest_row Right from (node m x y)) (Some (n.key, n.value)) (whole_valued Right from low n.key (node m x y) h.2 s.2 tt c))
whole_valued Left from low high (node n a empty) h s full c = let r : leb n.key from ≡ true = le-leb n.key from (omega (arith, h.1)) in rw r (own s.1)
  where
    own : HasValue n.value ⊎ (IsFull a × IsFull empty) → HasValue n.value
    own (inl v) = v
    own (inr f) = absurd f.1
whole_valued Left from low high (node n a (node m x y)) h s full c = let r : leb n.key from ≡ true = le-leb n.key from (omega (arith, h.1)) in
    rw r (valued_or (nearest_row Left from (node m x y)) (Some (n.key, n.value)) (whole_valued Left from (n.key + 1) high (node m x y) h.3 s.3 tt c))

-- how the next key lies to a node
missed : (side : Side) (from key : ℕ) → Toward (other side) key from → reaches side from key ≡ false
missed Left from key t = lt-leb key from t
missed Right from key t = lt-leb from key t

inside : (side : Side) (k key next : ℕ) → Toward (other side) k key → IsBehind side k (Some next) → reaches side next key ≡ true
inside Left k key next t b = le-leb key next (omega arith)
inside Right k key next t b = le-leb next key (omega (arith, b.0))

outside : (side : Side) (k key next : ℕ) → Toward side k key → IsBehind side k (Some next) → Toward (other side) key next
outside Left k key next t b = omega arith
outside Right k key next t b = omega (arith, b.0)

behind_it : (side : Side) (key next : ℕ) → IsBehind side key (Some next) → Toward (other side) key next
behind_it Left key next b = omega arith
behind_it Right key next b = omega (arith, b.0)

-- behind a row without a value
after_blank : (side : Side) (from next k low high : ℕ) (t : Tree) → Between low high t → IsSettledTree t → nearest_row side from t ≡ Some (k, None) → IsBehind side k (Some next) → IsValued (nearest_row side next t)
after_blank side from next k low high empty h s e bh = absurd (let z : None ≡ Some (k, None) = e in cc z)
after_blank side from next k low high (node n a b) h s e bh =
    let left = λ (i : nearest_row side from a ≡ Some (k, None)). after_blank side from next k low n.key a h.2 s.2 i bh in
    let right = λ (i : nearest_row side from b ≡ Some (k, None)). after_blank side from next k (n.key + 1) high b h.3 s.3 i bh in
    elim (reaches_tells side from n.key) [
      | inl r ↦ reached (on (other side) (nearest_row side from a) (nearest_row side from b)) refl (rw r.0 at e) left right
      | inr r ↦ not_reached (on side (nearest_row side from a) (nearest_row side from b)) refl (rw r.0 at e) left right
    ]
  where
    below : (d : Side) → (nearest_row side from a ≡ Some (k, None) → IsValued (nearest_row side next a)) → (nearest_row side from b ≡ Some (k, None) → IsValued (nearest_row side next b)) → on d (nearest_row side from a) (nearest_row side from b) ≡ Some (k, None) → IsValued (on d (nearest_row side next a) (nearest_row side next b))
    below Left l r i = l i
    below Right l r i = r i

    full_side : (d : Side) → side ≡ d → n.key ≡ k → IsFull a × IsFull b → IsValued (on d (nearest_row side next a) (nearest_row side next b))
    full_side Left e key f = subst (λ (x : Side). IsValued (nearest_row x next a)) (sym e) (whole_valued Left next low n.key a h.2 s.2 f.0 (let c : k ≡ next + 1 = subst (λ (x : Side). IsBehind x k (Some next)) e bh in omega arith))
    full_side Right e key f = subst (λ (x : Side). IsValued (nearest_row x next b)) (sym e) (whole_valued Right next (n.key + 1) high b h.3 s.3 f.1 (let c = subst (λ (x : Side). IsBehind x k (Some next)) e bh in omega (arith, c.0)))

    at_top : n.key ≡ k → n.value ≡ None → HasValue n.value ⊎ (IsFull a × IsFull b) → IsValued (nearest_row side next (node n a b))
    at_top key none (inl v) = absurd (subst HasValue none v)
    at_top key none (inr f) = rw (missed side next n.key (behind_it side n.key next (subst (λ (x : ℕ). IsBehind side x (Some next)) (sym key) bh)))
        (valued_or (on side (nearest_row side next a) (nearest_row side next b)) None (full_side side refl key f))

    reached : (o : Option (ℕ × Option ℕ)) → on (other side) (nearest_row side from a) (nearest_row side from b) ≡ o → nearer_or o (Some (n.key, n.value)) ≡ Some (k, None)
        → (nearest_row side from a ≡ Some (k, None) → IsValued (nearest_row side next a)) → (nearest_row side from b ≡ Some (k, None) → IsValued (nearest_row side next b)) → IsValued (nearest_row side next (node n a b))
    reached None is e l r = at_top (ap (λ (x : Option (ℕ × Option ℕ)). (row_of x).0) e) (ap (λ (x : Option (ℕ × Option ℕ)). (row_of x).1) e) s.1
    reached (Some p) is e l r =
        let stays : Toward (other side) k n.key = subst (Stays n.key (other side)) (is ∙ e) (row_stays side from low high n a b h (other side)) in
        rw (inside side k n.key next stays bh) (valued_or (on (other side) (nearest_row side next a) (nearest_row side next b)) (Some (n.key, n.value)) (below (other side) l r (is ∙ e)))

    not_reached : (o : Option (ℕ × Option ℕ)) → on side (nearest_row side from a) (nearest_row side from b) ≡ o → nearer_or o None ≡ Some (k, None)
        → (nearest_row side from a ≡ Some (k, None) → IsValued (nearest_row side next a)) → (nearest_row side from b ≡ Some (k, None) → IsValued (nearest_row side next b)) → IsValued (nearest_row side next (node n a b))
    not_reached None is e l r = absurd (let z : None ≡ Some (k, None) = e in cc z)
    not_reached (Some p) is e l r =
        let stays : Toward side k n.key = subst (Stays n.key side) (is ∙ e) (row_stays side from low high n a b h side) in
        rw (missed side next n.key (outside side k n.key next stays bh)) (valued_or (on side (nearest_row side next a) (nearest_row side next b)) None (below side l r (is ∙ e)))

-- where every key is reached the nearest row has a value
covers : (side : Side) (from : ℕ) → ReachesAll side from → Covers side from 0 (2 ^ 64)
covers Left from all = let m = all 18446744073709551615 (omega arith) in omega (arith, m)
covers Right from all = all 0 (omega arith)

outmost : (t : Tree) → Between 0 (2 ^ 64) t → IsSettledTree t → (side : Side) (from row : ℕ) → Some (row, None) ≡ nearest_row side from t → ReachesAll side from → ⊥
outmost empty h s side from row is all = absurd (let z : Some (row, None) ≡ None = is in cc z)
outmost (node n a b) h s side from row is all = subst IsValued (sym is) (whole_valued side from 0 (2 ^ 64) (node n a b) h s tt (covers side from all))

-- a search has gone no way yet, or one, which began behind some keys, and then a row with a value is next
abbrev IsAhead : Tree → Side → Option ℕ → Type 0
IsAhead t side None = Unit {0}
IsAhead t side (Some next) = IsValued (nearest_row side next t)

abbrev pub HasSpent : Tree → Side → ℕ → Option ℕ → ℕ → ℕ → Type 0
HasSpent t side from next before now = IsSettledTree t → ((now ≤ before) × (next ≡ Some from)) ⊎ ((now ≤ before + depth t) × IsAhead t side next × ¬ ReachesAll side from)

pub spent_none : (t : Tree) (side : Side) (from before : ℕ) → HasSpent t side from (Some from) before before
spent_none t side from before s = inl (omega arith, refl)

pub spent_on : (t : Tree) → Between 0 (2 ^ 64) t → (side : Side) (from key row : ℕ) (next : Option ℕ) (before now now' : ℕ) → HasSpent t side from (Some key) before now → Some (row, None) ≡ nearest_row side key t → IsBehind side row next → now' ≤ now + depth t → HasSpent t side from next before now'
spent_on t h side from key row next before now now' spent is behind l settled = elim (spent settled) [
  | inl none ↦ (let low = none.0 in inr (omega arith, ahead next behind, outmost t h settled side from row (subst (λ (k : Option ℕ). Some (row, None) ≡ nearest_row side (key_of k) t) none.1 is)))
  | inr one ↦ absurd (subst IsValued (sym is) one.1)
]
  where
    key_of : Option ℕ → ℕ
    key_of None = 0
    key_of (Some k) = k

    ahead : (o : Option ℕ) → IsBehind side row o → IsAhead t side o
    ahead None b = tt
    ahead (Some n) b = after_blank side key n row 0 (2 ^ 64) t h settled (sym is) b
