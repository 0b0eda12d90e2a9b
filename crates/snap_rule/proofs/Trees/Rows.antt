-- Which rows stand in a tree that has changed at a row.
use Rattle.std.proofs.Common.{◌≡◌, ◌≢◌, ℕ, ◌⊎◌, ◌↔◌, inl, inr, eqb, eq-eqb, ne_eqb, true, false, Option, sym, ◌∙◌, subst}
use native.Mathlib.Decide.{ℕ_discrete}
use mathlib.Core.Logic.{dite}
use Rattle.snap_rule.specs.Tree.{Node, Tree, Stands}
use Rattle.snap_stamp.specs.declared.side.Side.{Side}
use Rattle.snap_stamp.specs.declared.side.Side.TheVariants.{Left, Right}
use Rattle.snap_rule.specs.Tree.Tree.{empty, node}
use Rattle.snap_rule.specs.TreeChanges.{with_value, with_height, renamed, one_of, without, turned, rotated, first_on, grown_below, grown}
use Rattle.snap_rule.proofs.Trees.Ways.{Thin}

pub stands_with_value : (r : ℕ) (o : Option ℕ) (t : Tree) (n : ℕ) → Stands n t → Stands n (with_value r o t)
stands_with_value r o empty n h = h
stands_with_value r o (node m a b) n (inl e) = inl e
stands_with_value r o (node m a b) n (inr (inl h)) = inr (inl (stands_with_value r o a n h))
stands_with_value r o (node m a b) n (inr (inr h)) = inr (inr (stands_with_value r o b n h))

pub with_value_stands : (r : ℕ) (o : Option ℕ) (t : Tree) (n : ℕ) → Stands n (with_value r o t) → Stands n t
with_value_stands r o empty n h = h
with_value_stands r o (node m a b) n (inl e) = inl e
with_value_stands r o (node m a b) n (inr (inl h)) = inr (inl (with_value_stands r o a n h))
with_value_stands r o (node m a b) n (inr (inr h)) = inr (inr (with_value_stands r o b n h))

pub stands_with_height : (r x : ℕ) (t : Tree) (n : ℕ) → Stands n t → Stands n (with_height r x t)
stands_with_height r x empty n h = h
stands_with_height r x (node m a b) n (inl e) = inl e
stands_with_height r x (node m a b) n (inr (inl h)) = inr (inl (stands_with_height r x a n h))
stands_with_height r x (node m a b) n (inr (inr h)) = inr (inr (stands_with_height r x b n h))

pub with_height_stands : (r x : ℕ) (t : Tree) (n : ℕ) → Stands n (with_height r x t) → Stands n t
with_height_stands r x empty n h = h
with_height_stands r x (node m a b) n (inl e) = inl e
with_height_stands r x (node m a b) n (inr (inl h)) = inr (inl (with_height_stands r x a n h))
with_height_stands r x (node m a b) n (inr (inr h)) = inr (inr (with_height_stands r x b n h))

pub stands_renamed : (r q : ℕ) (t : Tree) (n : ℕ) → n ≢ r → Stands n t → Stands n (renamed r q t)
stands_renamed r q empty n z h = h
stands_renamed r q (node m a b) n z (inl e) = let g : eqb m.row r ≡ false = ne_eqb m.row r (λ x. z (e ∙ x)) in inl (rw g e)
stands_renamed r q (node m a b) n z (inr (inl h)) = inr (inl (stands_renamed r q a n z h))
stands_renamed r q (node m a b) n z (inr (inr h)) = inr (inr (stands_renamed r q b n z h))

pub renamed_stands : (r q : ℕ) (t : Tree) (n : ℕ) → Stands n (renamed r q t) → (n ≡ q) ⊎ (n ≢ r) × Stands n t
renamed_stands r q empty n h = absurd h
renamed_stands r q (node m a b) n (inl e) = dite (ℕ_discrete m.row r)
    (λ x. let g : eqb m.row r ≡ true = eq-eqb m.row r x in inl (rw g at e))
    (λ x. let g : eqb m.row r ≡ false = ne_eqb m.row r x in let f : n ≡ m.row = rw g at e in inr ((λ y. x (sym f ∙ y)), inl f))
renamed_stands r q (node m a b) n (inr (inl h)) = elim (renamed_stands r q a n h) [ inl e ↦ inl e | inr x ↦ inr (x.0, inr (inl x.1)) ]
renamed_stands r q (node m a b) n (inr (inr h)) = elim (renamed_stands r q b n h) [ inl e ↦ inl e | inr x ↦ inr (x.0, inr (inr x.1)) ]

one_of_stands : (a b : Tree) (n : ℕ) → Stands n (one_of a b) → Stands n a ⊎ Stands n b
one_of_stands empty b n h = inr h
one_of_stands (node m x y) b n h = inl h

pub without_stands : (r : ℕ) (t : Tree) (n : ℕ) → Stands n (without r t) → Stands n t
without_stands r empty n h = h
without_stands r (node m a b) n h = dite (ℕ_discrete m.row r)
    (λ x. let g : eqb m.row r ≡ true = eq-eqb m.row r x in inr (one_of_stands a b n (rw g at h)))
    (λ x. let g : eqb m.row r ≡ false = ne_eqb m.row r x in below (rw g at h) (without_stands r a n) (without_stands r b n))
  where
    below : Stands n (node m (without r a) (without r b)) → (Stands n (without r a) → Stands n a) → (Stands n (without r b) → Stands n b)
        → Stands n (node m a b)
    below (inl e) f g = inl e
    below (inr (inl v)) f g = inr (inl (f v))
    below (inr (inr v)) f g = inr (inr (g v))

first_stands : (a b : Tree) (n : ℕ) → Stands n a → Stands n (one_of a b)
first_stands empty b n w = absurd w
first_stands (node m x y) b n w = w

second_stands : (a b : Tree) (n : ℕ) → (a ≡ empty) ⊎ (b ≡ empty) → Stands n b → Stands n (one_of a b)
second_stands a b n (inl e) w = subst (λ (t : Tree). Stands n (one_of t b)) (sym e) w
second_stands a b n (inr e) w = absurd (subst (λ (t : Tree). Stands n t) e w)

stands_one_of : (m : Node) (a b : Tree) (n : ℕ) → n ≢ m.row → (a ≡ empty) ⊎ (b ≡ empty) → Stands n (node m a b) → Stands n (one_of a b)
stands_one_of m a b n z c (inl e) = absurd (z e)
stands_one_of m a b n z c (inr (inl w)) = first_stands a b n w
stands_one_of m a b n z c (inr (inr w)) = second_stands a b n c w

pub stands_without : (r : ℕ) (t : Tree) (n : ℕ) → n ≢ r → Thin r t → Stands n t → Stands n (without r t)
stands_without r empty n z c w = w
stands_without r (node m a b) n z c w = dite (ℕ_discrete m.row r)
    (λ e. let g : eqb m.row r ≡ true = eq-eqb m.row r e in rw g (stands_one_of m a b n (λ x. z (x ∙ e)) (c.0 e) w))
    (λ o. let g : eqb m.row r ≡ false = ne_eqb m.row r o in rw g (below w (stands_without r a n z c.1) (stands_without r b n z c.2)))
  where
    below : Stands n (node m a b) → (Stands n a → Stands n (without r a)) → (Stands n b → Stands n (without r b))
        → Stands n (node m (without r a) (without r b))
    below (inl e) f g = inl e
    below (inr (inl v)) f g = inr (inl (f v))
    below (inr (inr v)) f g = inr (inr (g v))

stands_turned : (d : Side) (m : Node) (a b : Tree) (n : ℕ) → Stands n (node m a b) ↔ Stands n (turned d m a b)
stands_turned Left m empty b n = ((λ h. h), (λ h. h))
stands_turned Left m (node p x y) b n = (there, back)
  where
    there : Stands n (node m (node p x y) b) → Stands n (node p x (node m y b))
    there (inl e) = inr (inr (inl e))
    there (inr (inl (inl e))) = inl e
    there (inr (inl (inr (inl h)))) = inr (inl h)
    there (inr (inl (inr (inr h)))) = inr (inr (inr (inl h)))
    there (inr (inr h)) = inr (inr (inr (inr h)))

    back : Stands n (node p x (node m y b)) → Stands n (node m (node p x y) b)
    back (inl e) = inr (inl (inl e))
    back (inr (inl h)) = inr (inl (inr (inl h)))
    back (inr (inr (inl e))) = inl e
    back (inr (inr (inr (inl h)))) = inr (inl (inr (inr h)))
    back (inr (inr (inr (inr h)))) = inr (inr h)
stands_turned Right m a empty n = ((λ h. h), (λ h. h))
stands_turned Right m a (node p x y) n = (there, back)
  where
    there : Stands n (node m a (node p x y)) → Stands n (node p (node m a x) y)
    there (inl e) = inr (inl (inl e))
    there (inr (inl h)) = inr (inl (inr (inl h)))
    there (inr (inr (inl e))) = inl e
    there (inr (inr (inr (inl h)))) = inr (inl (inr (inr h)))
    there (inr (inr (inr (inr h)))) = inr (inr h)

    back : Stands n (node p (node m a x) y) → Stands n (node m a (node p x y))
    back (inl e) = inr (inr (inl e))
    back (inr (inl (inl e))) = inl e
    back (inr (inl (inr (inl h)))) = inr (inl h)
    back (inr (inl (inr (inr h)))) = inr (inr (inr (inl h)))
    back (inr (inr h)) = inr (inr (inr (inr h)))

pub stands_rotated : (r : ℕ) (d : Side) (t : Tree) (n : ℕ) → Stands n t → Stands n (rotated r d t)
stands_rotated r d empty n h = h
stands_rotated r d (node m a b) n h = dite (ℕ_discrete m.row r)
    (λ e. let g : eqb m.row r ≡ true = eq-eqb m.row r e in rw g ((stands_turned d m a b n).0 h))
    (λ o. let g : eqb m.row r ≡ false = ne_eqb m.row r o in rw g (below h (stands_rotated r d a n) (stands_rotated r d b n)))
  where
    below : Stands n (node m a b) → (Stands n a → Stands n (rotated r d a)) → (Stands n b → Stands n (rotated r d b))
        → Stands n (node m (rotated r d a) (rotated r d b))
    below (inl e) f g = inl e
    below (inr (inl v)) f g = inr (inl (f v))
    below (inr (inr v)) f g = inr (inr (g v))

pub rotated_stands : (r : ℕ) (d : Side) (t : Tree) (n : ℕ) → Stands n (rotated r d t) → Stands n t
rotated_stands r d empty n h = h
rotated_stands r d (node m a b) n h = dite (ℕ_discrete m.row r)
    (λ e. let g : eqb m.row r ≡ true = eq-eqb m.row r e in (stands_turned d m a b n).1 (rw g at h))
    (λ o. let g : eqb m.row r ≡ false = ne_eqb m.row r o in below (rw g at h) (rotated_stands r d a n) (rotated_stands r d b n))
  where
    below : Stands n (node m (rotated r d a) (rotated r d b)) → (Stands n (rotated r d a) → Stands n a) → (Stands n (rotated r d b) → Stands n b)
        → Stands n (node m a b)
    below (inl e) f g = inl e
    below (inr (inl v)) f g = inr (inl (f v))
    below (inr (inr v)) f g = inr (inr (g v))

stands_first_on : (d : Side) (m : Node) (a b : Tree) (l : Node) (n : ℕ) → Stands n (node m a b) → Stands n (first_on d m a b l)
stands_first_on Left m empty b l n (inl e) = inl e
stands_first_on Left m empty b l n (inr (inl h)) = absurd h
stands_first_on Left m empty b l n (inr (inr h)) = inr (inr h)
stands_first_on Left m (node p x y) b l n h = h
stands_first_on Right m a empty l n (inl e) = inl e
stands_first_on Right m a empty l n (inr (inl h)) = inr (inl h)
stands_first_on Right m a empty l n (inr (inr h)) = absurd h
stands_first_on Right m a (node p x y) l n h = h

first_on_stands : (d : Side) (m : Node) (a b : Tree) (l : Node) (n : ℕ) → Stands n (first_on d m a b l) → (n ≡ l.row) ⊎ Stands n (node m a b)
first_on_stands Left m empty b l n (inl e) = inr (inl e)
first_on_stands Left m empty b l n (inr (inl (inl e))) = inl e
first_on_stands Left m empty b l n (inr (inl (inr (inl h)))) = absurd h
first_on_stands Left m empty b l n (inr (inl (inr (inr h)))) = absurd h
first_on_stands Left m empty b l n (inr (inr h)) = inr (inr (inr h))
first_on_stands Left m (node p x y) b l n h = inr h
first_on_stands Right m a empty l n (inl e) = inr (inl e)
first_on_stands Right m a empty l n (inr (inl h)) = inr (inr (inl h))
first_on_stands Right m a empty l n (inr (inr (inl e))) = inl e
first_on_stands Right m a empty l n (inr (inr (inr (inl h)))) = absurd h
first_on_stands Right m a empty l n (inr (inr (inr (inr h)))) = absurd h
first_on_stands Right m a (node p x y) l n h = inr h

stands_grown_below : (r : ℕ) (d : Side) (l : Node) (t : Tree) (n : ℕ) → Stands n t → Stands n (grown_below r d l t)
stands_grown_below r d l empty n h = h
stands_grown_below r d l (node m a b) n h = dite (ℕ_discrete m.row r)
    (λ e. let g : eqb m.row r ≡ true = eq-eqb m.row r e in rw g (stands_first_on d m a b l n h))
    (λ o. let g : eqb m.row r ≡ false = ne_eqb m.row r o in rw g (below h (stands_grown_below r d l a n) (stands_grown_below r d l b n)))
  where
    below : Stands n (node m a b) → (Stands n a → Stands n (grown_below r d l a)) → (Stands n b → Stands n (grown_below r d l b))
        → Stands n (node m (grown_below r d l a) (grown_below r d l b))
    below (inl e) f g = inl e
    below (inr (inl v)) f g = inr (inl (f v))
    below (inr (inr v)) f g = inr (inr (g v))

grown_below_stands : (r : ℕ) (d : Side) (l : Node) (t : Tree) (n : ℕ) → Stands n (grown_below r d l t) → (n ≡ l.row) ⊎ Stands n t
grown_below_stands r d l empty n h = inr h
grown_below_stands r d l (node m a b) n h = dite (ℕ_discrete m.row r)
    (λ e. let g : eqb m.row r ≡ true = eq-eqb m.row r e in first_on_stands d m a b l n (rw g at h))
    (λ o. let g : eqb m.row r ≡ false = ne_eqb m.row r o in below (rw g at h) (grown_below_stands r d l a n) (grown_below_stands r d l b n))
  where
    below : Stands n (node m (grown_below r d l a) (grown_below r d l b)) → (Stands n (grown_below r d l a) → (n ≡ l.row) ⊎ Stands n a)
        → (Stands n (grown_below r d l b) → (n ≡ l.row) ⊎ Stands n b)
        → (n ≡ l.row) ⊎ Stands n (node m a b)
    below (inl e) f g = inr (inl e)
    below (inr (inl v)) f g = elim (f v) [ inl e ↦ inl e | inr x ↦ inr (inr (inl x)) ]
    below (inr (inr v)) f g = elim (g v) [ inl e ↦ inl e | inr x ↦ inr (inr (inr x)) ]

pub stands_grown : (r : ℕ) (d : Side) (l : Node) (t : Tree) (n : ℕ) → Stands n t → Stands n (grown r d l t)
stands_grown r d l empty n h = absurd h
stands_grown r d l (node m a b) n h = stands_grown_below r d l (node m a b) n h

pub grown_stands : (r : ℕ) (d : Side) (l : Node) (t : Tree) (n : ℕ) → Stands n (grown r d l t) → (n ≡ l.row) ⊎ Stands n t
grown_stands r d l empty n (inl e) = inl e
grown_stands r d l empty n (inr (inl h)) = absurd h
grown_stands r d l empty n (inr (inr h)) = absurd h
grown_stands r d l (node m a b) n h = grown_below_stands r d l (node m a b) n h
