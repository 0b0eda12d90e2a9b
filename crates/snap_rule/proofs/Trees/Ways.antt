-- Searches in a tree that has changed at a row.
use Rattle.std.proofs.Common.{◌≡◌, ◌≢◌, ℕ, ◌+◌, ◌⊎◌, inl, inr, eqb, eq-eqb, ne_eqb, true, false, Option, ap, sym, ◌∙◌, subst, arith}
use native.Mathlib.Decide.{ℕ_discrete}
use mathlib.Core.Logic.{dite}
use Rattle.snap_rule.specs.Tree.{Node, Tree, OnWay, Between}
use Rattle.snap_stamp.specs.declared.side.Side.{Side}
use Rattle.snap_stamp.specs.declared.side.Side.TheVariants.{Left, Right}
use Rattle.snap_rule.specs.Tree.Tree.{empty, node}
use Rattle.snap_rule.specs.State.{State, Represents}
use Rattle.snap_rule.specs.TreeChanges.{with_value, renamed, one_of, without, turned, rotated, with_height, first_on, grown_below, grown}
use Rattle.snap_rule.proofs.Trees.{root_empty}

pub way_with_value : (r : ℕ) (o : Option ℕ) (t : Tree) (k n : ℕ) → OnWay t k n → OnWay (with_value r o t) k n
way_with_value r o empty k n w = w
way_with_value r o (node m a b) k n (inl e) = inl e
way_with_value r o (node m a b) k n (inr (inl w)) = inr (inl (w.0, way_with_value r o a k n w.1))
way_with_value r o (node m a b) k n (inr (inr w)) = inr (inr (w.0, way_with_value r o b k n w.1))

pub way_renamed : (r q : ℕ) (t : Tree) (k n : ℕ) → n ≢ r → OnWay t k n → OnWay (renamed r q t) k n
way_renamed r q empty k n z w = w
way_renamed r q (node m a b) k n z (inl e) = let g : eqb m.row r ≡ false = ne_eqb m.row r (λ x. z (e ∙ x)) in inl (rw g e)
way_renamed r q (node m a b) k n z (inr (inl w)) = inr (inl (w.0, way_renamed r q a k n z w.1))
way_renamed r q (node m a b) k n z (inr (inr w)) = inr (inr (w.0, way_renamed r q b k n z w.1))

-- a row has one child in the tree, or none
abbrev pub Thin : ℕ → Tree → Type 0
Thin r empty = Unit {0}
Thin r (node m a b) = (m.row ≡ r → (a ≡ empty) ⊎ (b ≡ empty)) × Thin r a × Thin r b

pub thin : (s : State) (l : ℕ → Side → ℕ) (r : ℕ) (t : Tree) → Represents s l t → (l r Left ≡ 0) ⊎ (l r Right ≡ 0) → Thin r t
thin s l r empty h c = tt
thin s l r (node m a b) h c = (one c, thin s l r a h.3 c, thin s l r b h.4 c)
  where
    one : (l r Left ≡ 0) ⊎ (l r Right ≡ 0) → m.row ≡ r → (a ≡ empty) ⊎ (b ≡ empty)
    one (inl z) e = inl (root_empty s l a h.3 (sym h.1 ∙ ap (λ (x : ℕ). l x Left) e ∙ z))
    one (inr z) e = inr (root_empty s l b h.4 (sym h.2 ∙ ap (λ (x : ℕ). l x Right) e ∙ z))

way_first : (a b : Tree) (k n : ℕ) → OnWay a k n → OnWay (one_of a b) k n
way_first empty b k n w = absurd w
way_first (node m x y) b k n w = w

way_second : (a b : Tree) (k n : ℕ) → (a ≡ empty) ⊎ (b ≡ empty) → OnWay b k n → OnWay (one_of a b) k n
way_second a b k n (inl e) w = subst (λ (t : Tree). OnWay (one_of t b) k n) (sym e) w
way_second a b k n (inr e) w = absurd (subst (λ (t : Tree). OnWay t k n) e w)

way_one_of : (m : Node) (a b : Tree) (k n : ℕ) → n ≢ m.row → (a ≡ empty) ⊎ (b ≡ empty) → OnWay (node m a b) k n → OnWay (one_of a b) k n
way_one_of m a b k n z c (inl e) = absurd (z e)
way_one_of m a b k n z c (inr (inl w)) = way_first a b k n w.1
way_one_of m a b k n z c (inr (inr w)) = way_second a b k n c w.1

pub way_without : (r : ℕ) (t : Tree) (k n : ℕ) → n ≢ r → Thin r t → OnWay t k n → OnWay (without r t) k n
way_without r empty k n z c w = w
way_without r (node m a b) k n z c w = dite (ℕ_discrete m.row r)
    (λ e. let g : eqb m.row r ≡ true = eq-eqb m.row r e in rw g (way_one_of m a b k n (λ x. z (x ∙ e)) (c.0 e) w))
    (λ o. let g : eqb m.row r ≡ false = ne_eqb m.row r o in rw g (below w (way_without r a k n z c.1) (way_without r b k n z c.2)))
  where
    below : OnWay (node m a b) k n → (OnWay a k n → OnWay (without r a) k n) → (OnWay b k n → OnWay (without r b) k n)
        → OnWay (node m (without r a) (without r b)) k n
    below (inl e) f g = inl e
    below (inr (inl v)) f g = inr (inl (v.0, f v.1))
    below (inr (inr v)) f g = inr (inr (v.0, g v.1))

way_turned : (d : Side) (low high : ℕ) (m : Node) (a b : Tree) (k n : ℕ) → n ≢ m.row → Between low high (node m a b) → OnWay (node m a b) k n
    → OnWay (turned d m a b) k n
way_turned d low high m a b k n z h (inl e) = absurd (z e)
way_turned Left low high m empty b k n z h (inr w) = inr w
way_turned Left low high m (node p x y) b k n z h (inr (inl (l, inl e))) = inl e
way_turned Left low high m (node p x y) b k n z h (inr (inl (l, inr (inl v)))) = inr (inl v)
way_turned Left low high m (node p x y) b k n z h (inr (inl (l, inr (inr v)))) = inr (inr (v.0, inr (inl (l, v.1))))
way_turned Left low high m (node p x y) b k n z h (inr (inr w)) = let q = h.2.1 in inr (inr (omega (arith, w.0), inr (inr w)))
way_turned Right low high m a empty k n z h (inr w) = inr w
way_turned Right low high m a (node p x y) k n z h (inr (inr (l, inl e))) = inl e
way_turned Right low high m a (node p x y) k n z h (inr (inr (l, inr (inr v)))) = inr (inr v)
way_turned Right low high m a (node p x y) k n z h (inr (inr (l, inr (inl v)))) = inr (inl (v.0, inr (inr (l, v.1))))
way_turned Right low high m a (node p x y) k n z h (inr (inl w)) = let q = h.3.0 in inr (inl (omega (arith, w.0), inr (inl w)))

-- at a rotation a row other than the lowered one stays on each way on which it was
pub way_rotated : (r : ℕ) (d : Side) (low high : ℕ) (t : Tree) (k n : ℕ) → n ≢ r → Between low high t → OnWay t k n → OnWay (rotated r d t) k n
way_rotated r d low high empty k n z h w = w
way_rotated r d low high (node m a b) k n z h w = dite (ℕ_discrete m.row r)
    (λ e. let g : eqb m.row r ≡ true = eq-eqb m.row r e in rw g (way_turned d low high m a b k n (λ x. z (x ∙ e)) h w))
    (λ o. let g : eqb m.row r ≡ false = ne_eqb m.row r o in rw g (below w (way_rotated r d low m.key a k n z h.2) (way_rotated r d (m.key + 1) high b k n z h.3)))
  where
    below : OnWay (node m a b) k n → (OnWay a k n → OnWay (rotated r d a) k n) → (OnWay b k n → OnWay (rotated r d b) k n)
        → OnWay (node m (rotated r d a) (rotated r d b)) k n
    below (inl e) f g = inl e
    below (inr (inl v)) f g = inr (inl (v.0, f v.1))
    below (inr (inr v)) f g = inr (inr (v.0, g v.1))

pub way_with_height : (r x : ℕ) (t : Tree) (k n : ℕ) → OnWay t k n → OnWay (with_height r x t) k n
way_with_height r x empty k n w = w
way_with_height r x (node m a b) k n (inl e) = inl e
way_with_height r x (node m a b) k n (inr (inl w)) = inr (inl (w.0, way_with_height r x a k n w.1))
way_with_height r x (node m a b) k n (inr (inr w)) = inr (inr (w.0, way_with_height r x b k n w.1))

way_first_on : (d : Side) (m : Node) (a b : Tree) (l : Node) (k n : ℕ) → OnWay (node m a b) k n → OnWay (first_on d m a b l) k n
way_first_on Left m empty b l k n (inl e) = inl e
way_first_on Left m empty b l k n (inr (inl h)) = absurd h.1
way_first_on Left m empty b l k n (inr (inr h)) = inr (inr h)
way_first_on Left m (node p x y) b l k n h = h
way_first_on Right m a empty l k n (inl e) = inl e
way_first_on Right m a empty l k n (inr (inl h)) = inr (inl h)
way_first_on Right m a empty l k n (inr (inr h)) = absurd h.1
way_first_on Right m a (node p x y) l k n h = h

way_grown_below : (r : ℕ) (d : Side) (l : Node) (t : Tree) (k n : ℕ) → OnWay t k n → OnWay (grown_below r d l t) k n
way_grown_below r d l empty k n w = w
way_grown_below r d l (node m a b) k n w = dite (ℕ_discrete m.row r)
    (λ e. let g : eqb m.row r ≡ true = eq-eqb m.row r e in rw g (way_first_on d m a b l k n w))
    (λ o. let g : eqb m.row r ≡ false = ne_eqb m.row r o in rw g (below w (way_grown_below r d l a k n) (way_grown_below r d l b k n)))
  where
    below : OnWay (node m a b) k n → (OnWay a k n → OnWay (grown_below r d l a) k n) → (OnWay b k n → OnWay (grown_below r d l b) k n)
        → OnWay (node m (grown_below r d l a) (grown_below r d l b)) k n
    below (inl e) f g = inl e
    below (inr (inl v)) f g = inr (inl (v.0, f v.1))
    below (inr (inr v)) f g = inr (inr (v.0, g v.1))

pub way_grown : (r : ℕ) (d : Side) (l : Node) (t : Tree) (k n : ℕ) → OnWay t k n → OnWay (grown r d l t) k n
way_grown r d l empty k n w = absurd w
way_grown r d l (node m a b) k n w = way_grown_below r d l (node m a b) k n w
