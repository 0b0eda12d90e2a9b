-- Trees stay ordered, whatever a step does to them.
use Rattle.std.proofs.Common.{◌≡◌, ℕ, ◌+◌, ◌<◌, ◌≤◌, ◌⊎◌, inl, inr, eqb, eq-eqb, ne_eqb, true, false, Option, refl, ap, sym, ◌∙◌, subst, arith}
use native.Mathlib.Decide.{ℕ_discrete}
use mathlib.Core.Logic.{dite}
use Rattle.snap_rule.specs.Tree.{Node, Tree, root, Stands, OnWay, Between}
use Rattle.snap_stamp.specs.Sides.{Toward}
use Rattle.snap_stamp.specs.declared.side.Side.{Side}
use Rattle.snap_stamp.specs.declared.side.Side.TheVariants.{Left, Right}
use Rattle.snap_rule.specs.Tree.Tree.{empty, node}
use Rattle.snap_rule.specs.State.{State, Represents}
use Rattle.snap_rule.specs.TreeChanges.{with_value, with_height, renamed, one_of, without, turned, rotated, first_on, grown_below, grown}
use Rattle.snap_rule.proofs.Trees.{way_stands}
use Rattle.snap_rule.proofs.Trees.Unique.{left_key, right_key, sides_apart}

pub with_value_ordered : (r : ℕ) (o : Option ℕ) (low high : ℕ) (t : Tree) → Between low high t → Between low high (with_value r o t)
with_value_ordered r o low high empty h = tt
with_value_ordered r o low high (node m a b) h = (h.0, h.1, with_value_ordered r o low m.key a h.2, with_value_ordered r o (m.key + 1) high b h.3)

pub with_height_ordered : (r x low high : ℕ) (t : Tree) → Between low high t → Between low high (with_height r x t)
with_height_ordered r x low high empty h = tt
with_height_ordered r x low high (node m a b) h = (h.0, h.1, with_height_ordered r x low m.key a h.2, with_height_ordered r x (m.key + 1) high b h.3)

pub renamed_ordered : (r q low high : ℕ) (t : Tree) → Between low high t → Between low high (renamed r q t)
renamed_ordered r q low high empty h = tt
renamed_ordered r q low high (node m a b) h = (h.0, h.1, renamed_ordered r q low m.key a h.2, renamed_ordered r q (m.key + 1) high b h.3)

pub wider : (low low' high high' : ℕ) (t : Tree) → low' ≤ low → high ≤ high' → Between low high t → Between low' high' t
wider low low' high high' empty l h b = tt
wider low low' high high' (node n x y) l h b = (omega (arith, b.0), omega (arith, b.1), wider low low' n.key n.key x l (omega arith) b.2, wider (n.key + 1) (n.key + 1) high high' y (omega arith) h b.3)

one_of_ordered : (low high : ℕ) (a b : Tree) → Between low high a → Between low high b → Between low high (one_of a b)
one_of_ordered low high empty b h i = i
one_of_ordered low high (node m x y) b h i = h

pub without_ordered : (r low high : ℕ) (t : Tree) → Between low high t → Between low high (without r t)
without_ordered r low high empty h = tt
without_ordered r low high (node m a b) h = let x = h.0 in let y = h.1 in dite (ℕ_discrete m.row r)
    (λ e. let g : eqb m.row r ≡ true = eq-eqb m.row r e in rw g (one_of_ordered low high a b (wider low low m.key high a (omega arith) (omega arith) h.2) (wider (m.key + 1) low high high b (omega arith) (omega arith) h.3)))
    (λ o. let g : eqb m.row r ≡ false = ne_eqb m.row r o in rw g (below h (without_ordered r low m.key a h.2) (without_ordered r (m.key + 1) high b h.3)))
  where
    below : Between low high (node m a b) → Between low m.key (without r a) → Between (m.key + 1) high (without r b)
        → Between low high (node m (without r a) (without r b))
    below h x y = (h.0, h.1, x, y)

turned_ordered : (d : Side) (low high : ℕ) (m : Node) (a b : Tree) → Between low high (node m a b) → Between low high (turned d m a b)
turned_ordered Left low high m empty b h = h
turned_ordered Left low high m (node p x y) b h = let u = h.1 in let v = h.2.1 in (h.2.0, omega arith, h.2.2, (omega arith, h.1, h.2.3, h.3))
turned_ordered Right low high m a empty h = h
turned_ordered Right low high m a (node p x y) h = let u = h.0 in let v = h.3.0 in (omega arith, h.3.1, (h.0, omega arith, h.2, h.3.2), h.3.3)

pub rotated_ordered : (r : ℕ) (d : Side) (low high : ℕ) (t : Tree) → Between low high t → Between low high (rotated r d t)
rotated_ordered r d low high empty h = tt
rotated_ordered r d low high (node m a b) h = dite (ℕ_discrete m.row r)
    (λ e. let g : eqb m.row r ≡ true = eq-eqb m.row r e in rw g (turned_ordered d low high m a b h))
    (λ o. let g : eqb m.row r ≡ false = ne_eqb m.row r o in rw g (below h (rotated_ordered r d low m.key a h.2) (rotated_ordered r d (m.key + 1) high b h.3)))
  where
    below : Between low high (node m a b) → Between low m.key (rotated r d a) → Between (m.key + 1) high (rotated r d b)
        → Between low high (node m (rotated r d a) (rotated r d b))
    below h x y = (h.0, h.1, x, y)

-- where a row doesn't stand nothing grows
pub not_grown : (r : ℕ) (d : Side) (l : Node) (t : Tree) → ¬ Stands r t → grown_below r d l t ≡ t
not_grown r d l empty h = refl
not_grown r d l (node m a b) h = let g : eqb m.row r ≡ false = ne_eqb m.row r (λ e. h (inl (sym e))) in rw g (below (not_grown r d l a (λ i. h (inr (inl i)))) (not_grown r d l b (λ i. h (inr (inr i)))))
  where
    below : grown_below r d l a ≡ a → grown_below r d l b ≡ b → node m (grown_below r d l a) (grown_below r d l b) ≡ node m a b
    below x y = cc

first_on_ordered : (d : Side) (low high : ℕ) (m : Node) (a b : Tree) (l : Node) → Between low high (node m a b) → Toward d l.key m.key → low ≤ l.key
    → l.key < high
    → Between low high (first_on d m a b l)
first_on_ordered Left low high m empty b l h t x y = (h.0, h.1, (x, t, tt, tt), h.3)
first_on_ordered Left low high m (node p u v) b l h t x y = h
first_on_ordered Right low high m a empty l h t x y = (h.0, h.1, h.2, (omega arith, y, tt, tt))
first_on_ordered Right low high m a (node p u v) l h t x y = h

module _ (s : State) (links : ℕ → Side → ℕ) (r : ℕ) (d : Side) (l : Node) where
  grown_below_ordered : (low high : ℕ) (t : Tree) → Between low high t → Represents s links t → OnWay t l.key r → Toward d l.key (s.key r) → low ≤ l.key
      → l.key < high
      → Between low high (grown_below r d l t)
  grown_below_ordered low high empty h v w t x y = absurd w
  grown_below_ordered low high (node m a b) h v (inl e) t x y =
      let g : eqb m.row r ≡ true = eq-eqb m.row r (sym e) in
      rw g (first_on_ordered d low high m a b l h (subst (Toward d l.key) (ap s.key e ∙ v.0.key) t) x y)
  grown_below_ordered low high (node m a b) h v (inr (inl w)) t x y =
      let i : Stands r a = way_stands a l.key r w.1 in
      let k = left_key s links low high m a b r h v i in
      let g : eqb m.row r ≡ false = ne_eqb m.row r (λ q. let z = ap s.key q in omega arith) in
      let c : grown_below r d l b ≡ b = not_grown r d l b (λ j. sides_apart s links low high m a b r h v i j) in
      rw (g, c) (h.0, h.1, grown_below_ordered low m.key a h.2 v.3 w.1 t x w.0, h.3)
  grown_below_ordered low high (node m a b) h v (inr (inr w)) t x y =
      let i : Stands r b = way_stands b l.key r w.1 in
      let k = right_key s links low high m a b r h v i in
      let g : eqb m.row r ≡ false = ne_eqb m.row r (λ q. let z = ap s.key q in omega arith) in
      let c : grown_below r d l a ≡ a = not_grown r d l a (λ j. sides_apart s links low high m a b r h v j i) in
      rw (g, c) (h.0, h.1, h.2, grown_below_ordered (m.key + 1) high b h.3 v.4 w.1 t (let z = w.0 in omega arith) y)

  pub grown_ordered : (low high : ℕ) (t : Tree) → Between low high t → Represents s links t → (root t ≡ 0) ⊎ OnWay t l.key r × Toward d l.key (s.key r)
      → low ≤ l.key → l.key < high
      → Between low high (grown r d l t)
  grown_ordered low high empty h v w x y = (x, y, tt, tt)
  grown_ordered low high (node m a b) h v (inl z) x y = absurd (omega (arith, v.0.is_row, z))
  grown_ordered low high (node m a b) h v (inr w) x y = grown_below_ordered low high (node m a b) h v w.0 w.1 x y
