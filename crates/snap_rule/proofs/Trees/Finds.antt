-- What a search finds in a tree that has changed at a row.
use Rattle.std.proofs.Common.{◌≡◌, ◌≢◌, ℕ, ◌+◌, ◌<◌, ◌≤◌, ◌⊎◌, inl, inr, eqb, eq-eqb, ne_eqb, true, false, Option, None, refl, ap, sym, ◌∙◌, subst, arith}
use Rattle.std.specs.Prelude.{◌==◌, if◌then◌else◌}
use native.Mathlib.Decide.{ℕ_discrete, dec_lt}
use mathlib.Core.Logic.{dite}
use Rattle.snap_rule.specs.Tree.{Node, Tree, root, find, OnWay, Between}
use Rattle.snap_stamp.specs.Sides.{Toward}
use Rattle.snap_stamp.specs.declared.side.Side.{Side}
use Rattle.snap_stamp.specs.declared.side.Side.TheVariants.{Left, Right}
use Rattle.snap_rule.specs.Tree.Tree.{empty, node}
use Rattle.snap_rule.specs.State.{State, Represents}
use Rattle.snap_rule.specs.TreeChanges.{with_value, with_height, renamed, one_of, without, turned, rotated, first_on, grown_below, grown}
use Rattle.snap_rule.proofs.Trees.{child, find_here, find_left, find_right, reads_child, root_empty}
use Rattle.snap_rule.proofs.Trees.Ways.{Thin}
use Rattle.snap_rule.proofs.Evolving.Telling.{word_none}

-- a key is a node's, or on one side of it
pub three : {C : Type 0} (k key : ℕ) → (key ≡ k → C) → (k < key → C) → (key < k → C) → C
three k key f g h = dite (ℕ_discrete key k) f (λ n. dite (dec_lt k key) g (λ m. h (omega arith)))

pub find_low : (low high : ℕ) (t : Tree) (k : ℕ) → Between low high t → k < low → find t k ≡ None
find_low low high empty k h z = refl
find_low low high (node m a b) k h z = let x = h.0 in find_left m a b k (omega arith) ∙ find_low low m.key a k h.2 z

pub find_high : (low high : ℕ) (t : Tree) (k : ℕ) → Between low high t → high ≤ k → find t k ≡ None
find_high low high empty k h z = refl
find_high low high (node m a b) k h z = let x = h.1 in find_right m a b k (omega arith) ∙ find_high (m.key + 1) high b k h.3 z

-- two nodes with one key
both_nodes : (m n : Node) (a b c d : Tree) (k : ℕ) → n.key ≡ m.key → (m.key ≡ k → n.value ≡ m.value) → find c k ≡ find a k → find d k ≡ find b k
    → find (node n c d) k ≡ find (node m a b) k
both_nodes m n a b c d k e v f g = three k m.key
    (λ q. find_here n c d k (e ∙ q) ∙ v q ∙ sym (find_here m a b k q))
    (λ q. find_left n c d k (omega arith) ∙ f ∙ sym (find_left m a b k q))
    (λ q. find_right n c d k (omega arith) ∙ g ∙ sym (find_right m a b k q))

pub find_value_other : (s : State) (l : ℕ → Side → ℕ) (r : ℕ) (o : Option ℕ) (t : Tree) (k : ℕ) → Represents s l t → k ≢ s.key r
    → find (with_value r o t) k ≡ find t k
find_value_other s l r o empty k h z = refl
find_value_other s l r o (node m a b) k h z =
    both_nodes m (record m { value = _ }) a b (with_value r o a) (with_value r o b) k refl
    (λ q. let g : eqb m.row r ≡ false = ne_eqb m.row r (λ e. z (sym (sym (ap s.key e) ∙ h.0.key ∙ q))) in rw g)
    (find_value_other s l r o a k h.3 z) (find_value_other s l r o b k h.4 z)

pub find_value_same : (s : State) (l : ℕ → Side → ℕ) (r : ℕ) (o : Option ℕ) (t : Tree) (k : ℕ) → Represents s l t → s.key r ≡ k → OnWay t k r
    → find (with_value r o t) k ≡ o
find_value_same s l r o empty k h z w = absurd w
find_value_same s l r o (node m a b) k h z (inl e) =
    let g : eqb m.row r ≡ true = eq-eqb m.row r (sym e) in
    find_here (record m { value = _ }) (with_value r o a) (with_value r o b) k (sym h.0.key ∙ sym (ap s.key e) ∙ z) ∙ rw g
find_value_same s l r o (node m a b) k h z (inr (inl w)) = find_left (record m { value = _ }) (with_value r o a) (with_value r o b) k w.0 ∙ find_value_same s l r o a k h.3 z w.1
find_value_same s l r o (node m a b) k h z (inr (inr w)) = find_right (record m { value = _ }) (with_value r o a) (with_value r o b) k w.0 ∙ find_value_same s l r o b k h.4 z w.1

pub find_height : (r x : ℕ) (t : Tree) (k : ℕ) → find (with_height r x t) k ≡ find t k
find_height r x empty k = refl
find_height r x (node m a b) k = both_nodes m (record m { height = if m.row == r then x else m.height }) a b (with_height r x a) (with_height r x b) k refl (λ q. refl) (find_height r x a k) (find_height r x b k)

pub find_renamed : (r q : ℕ) (t : Tree) (k : ℕ) → find (renamed r q t) k ≡ find t k
find_renamed r q empty k = refl
find_renamed r q (node m a b) k = both_nodes m (record m { row = if m.row == r then q else m.row }) a b (renamed r q a) (renamed r q b) k refl (λ z. refl) (find_renamed r q a k) (find_renamed r q b k)

find_first : (low high : ℕ) (m : Node) (a b : Tree) (k : ℕ) → Between low high (node m a b) → k < m.key → find (one_of a b) k ≡ find a k
find_first low high m empty b k h z = find_low (m.key + 1) high b k h.3 (omega arith)
find_first low high m (node p x y) b k h z = refl

find_second : (low high : ℕ) (m : Node) (a b : Tree) (k : ℕ) → Between low high (node m a b) → (a ≡ empty) ⊎ (b ≡ empty) → m.key < k
    → find (one_of a b) k ≡ find b k
find_second low high m empty b k h c z = refl
find_second low high m (node p x y) b k h (inl e) z = cc
find_second low high m (node p x y) b k h (inr e) z = find_high low m.key (node p x y) k h.2 (omega arith) ∙ sym (ap (λ (t : Tree). find t k) e)

find_neither : (low high : ℕ) (m : Node) (a b : Tree) (k : ℕ) → Between low high (node m a b) → m.key ≡ k → find (one_of a b) k ≡ None
find_neither low high m empty b k h z = find_low (m.key + 1) high b k h.3 (omega arith)
find_neither low high m (node p x y) b k h z = find_high low m.key (node p x y) k h.2 (omega arith)

pub find_without : (s : State) (l : ℕ → Side → ℕ) (r low high : ℕ) (t : Tree) (k : ℕ) → Between low high t → Represents s l t → Thin r t → s.value r ≡ 0
    → find (without r t) k ≡ find t k
find_without s l r low high empty k h v c z = refl
find_without s l r low high (node m a b) k h v c z = dite (ℕ_discrete m.row r)
    (λ e. let g : eqb m.row r ≡ true = eq-eqb m.row r e in rw g (three k m.key
    (λ q. find_neither low high m a b k h q ∙ sym (find_here m a b k q ∙ word_none m.value (sym v.0.value ∙ ap s.value e ∙ z)))
    (λ q. find_first low high m a b k h q ∙ sym (find_left m a b k q))
    (λ q. find_second low high m a b k h (c.0 e) q ∙ sym (find_right m a b k q))))
    (λ o. let g : eqb m.row r ≡ false = ne_eqb m.row r o in rw g (below (find_without s l r low m.key a k h.2 v.3 c.1 z) (find_without s l r (m.key + 1) high b k h.3 v.4 c.2 z)))
  where
    below : find (without r a) k ≡ find a k → find (without r b) k ≡ find b k → find (node m (without r a) (without r b)) k ≡ find (node m a b) k
    below x y = both_nodes m m a b (without r a) (without r b) k refl (λ q. refl) x y

turn_left : (m p : Node) (x y b : Tree) (k : ℕ) → p.key < m.key → find (node p x (node m y b)) k ≡ find (node m (node p x y) b) k
turn_left m p x y b k h = three k m.key
    (λ q. find_right p x (node m y b) k (omega arith) ∙ find_here m y b k q ∙ sym (find_here m (node p x y) b k q))
    (λ q. both_nodes p p x y x (node m y b) k refl (λ z. refl) refl (find_left m y b k q) ∙ sym (find_left m (node p x y) b k q))
    (λ q. find_right p x (node m y b) k (omega arith) ∙ find_right m y b k q ∙ sym (find_right m (node p x y) b k q))

turn_right : (m p : Node) (a x y : Tree) (k : ℕ) → m.key < p.key → find (node p (node m a x) y) k ≡ find (node m a (node p x y)) k
turn_right m p a x y k h = three k m.key
    (λ q. find_left p (node m a x) y k (omega arith) ∙ find_here m a x k q ∙ sym (find_here m a (node p x y) k q))
    (λ q. find_left p (node m a x) y k (omega arith) ∙ find_left m a x k q ∙ sym (find_left m a (node p x y) k q))
    (λ q. both_nodes p p x y (node m a x) y k refl (λ z. refl) (find_right m a x k q) refl ∙ sym (find_right m a (node p x y) k q))

find_turned : (d : Side) (low high : ℕ) (m : Node) (a b : Tree) (k : ℕ) → Between low high (node m a b)
    → find (turned d m a b) k ≡ find (node m a b) k
find_turned Left low high m empty b k h = refl
find_turned Left low high m (node p x y) b k h = turn_left m p x y b k h.2.1
find_turned Right low high m a empty k h = refl
find_turned Right low high m a (node p x y) k h = turn_right m p a x y k (let u = h.3.0 in omega arith)

pub find_rotated : (r : ℕ) (d : Side) (low high : ℕ) (t : Tree) (k : ℕ) → Between low high t → find (rotated r d t) k ≡ find t k
find_rotated r d low high empty k h = refl
find_rotated r d low high (node m a b) k h = dite (ℕ_discrete m.row r)
    (λ e. let g : eqb m.row r ≡ true = eq-eqb m.row r e in rw g (find_turned d low high m a b k h))
    (λ o. let g : eqb m.row r ≡ false = ne_eqb m.row r o in rw g (below (find_rotated r d low m.key a k h.2) (find_rotated r d (m.key + 1) high b k h.3)))
  where
    below : find (rotated r d a) k ≡ find a k → find (rotated r d b) k ≡ find b k
        → find (node m (rotated r d a) (rotated r d b)) k ≡ find (node m a b) k
    below x y = both_nodes m m a b (rotated r d a) (rotated r d b) k refl (λ q. refl) x y

leaf_other : (l : Node) (k : ℕ) → k ≢ l.key → find (node l empty empty) k ≡ None
leaf_other l k z = three k l.key (λ q. absurd (z (sym q))) (λ q. find_left l empty empty k q) (λ q. find_right l empty empty k q)

first_on_other : (d : Side) (m : Node) (a b : Tree) (l : Node) (k : ℕ) → k ≢ l.key → find (first_on d m a b l) k ≡ find (node m a b) k
first_on_other Left m empty b l k z = both_nodes m m empty b (node l empty empty) b k refl (λ q. refl) (leaf_other l k z) refl
first_on_other Left m (node p x y) b l k z = refl
first_on_other Right m a empty l k z = both_nodes m m a empty a (node l empty empty) k refl (λ q. refl) refl (leaf_other l k z)
first_on_other Right m a (node p x y) l k z = refl

grown_below_other : (r : ℕ) (d : Side) (l : Node) (t : Tree) (k : ℕ) → k ≢ l.key → find (grown_below r d l t) k ≡ find t k
grown_below_other r d l empty k z = refl
grown_below_other r d l (node m a b) k z = dite (ℕ_discrete m.row r)
    (λ e. let g : eqb m.row r ≡ true = eq-eqb m.row r e in rw g (first_on_other d m a b l k z))
    (λ o. let g : eqb m.row r ≡ false = ne_eqb m.row r o in rw g (below (grown_below_other r d l a k z) (grown_below_other r d l b k z)))
  where
    below : find (grown_below r d l a) k ≡ find a k → find (grown_below r d l b) k ≡ find b k
        → find (node m (grown_below r d l a) (grown_below r d l b)) k ≡ find (node m a b) k
    below x y = both_nodes m m a b (grown_below r d l a) (grown_below r d l b) k refl (λ q. refl) x y

pub find_grown_other : (r : ℕ) (d : Side) (l : Node) (t : Tree) (k : ℕ) → k ≢ l.key → find (grown r d l t) k ≡ find t k
find_grown_other r d l empty k z = leaf_other l k z
find_grown_other r d l (node m a b) k z = grown_below_other r d l (node m a b) k z

first_on_same : (d : Side) (m : Node) (a b : Tree) (l : Node) → child d a b ≡ empty → Toward d l.key m.key → find (first_on d m a b l) l.key ≡ l.value
first_on_same Left m empty b l c t = find_left m (node l empty empty) b l.key t ∙ find_here l empty empty l.key refl
first_on_same Left m (node p x y) b l c t = cc
first_on_same Right m a empty l c t = find_right m a (node l empty empty) l.key t ∙ find_here l empty empty l.key refl
first_on_same Right m a (node p x y) l c t = cc

module _ (s : State) (links : ℕ → Side → ℕ) (r : ℕ) (d : Side) (l : Node) (none : links r d ≡ 0) where
  grown_top : (m : Node) (a b : Tree) → Represents s links (node m a b) → r ≡ m.row → Toward d l.key (s.key r)
      → find (grown_below r d l (node m a b)) l.key ≡ l.value
  grown_top m a b v e t =
      let g : eqb m.row r ≡ true = eq-eqb m.row r (sym e) in
      let c = reads_child s links d m a b v in
      rw g (first_on_same d m a b l (root_empty s links (child d a b) c.1 (sym c.0 ∙ ap (λ (x : ℕ). links x d) (sym e) ∙ none)) (subst (Toward d l.key) (ap s.key e ∙ v.0.key) t))

  grown_below_same : (t : Tree) → Represents s links t → OnWay t l.key r → Toward d l.key (s.key r) → find (grown_below r d l t) l.key ≡ l.value
  grown_below_same empty v w t = absurd w
  grown_below_same (node m a b) v (inl e) t = grown_top m a b v e t
  grown_below_same (node m a b) v (inr (inl w)) t = dite (ℕ_discrete m.row r)
      (λ e. grown_top m a b v (sym e) t)
      (λ o. let g : eqb m.row r ≡ false = ne_eqb m.row r o in rw g (find_left m (grown_below r d l a) (grown_below r d l b) l.key w.0 ∙ grown_below_same a v.3 w.1 t))
  grown_below_same (node m a b) v (inr (inr w)) t = dite (ℕ_discrete m.row r)
      (λ e. grown_top m a b v (sym e) t)
      (λ o. let g : eqb m.row r ≡ false = ne_eqb m.row r o in rw g (find_right m (grown_below r d l a) (grown_below r d l b) l.key w.0 ∙ grown_below_same b v.4 w.1 t))

  pub find_grown_same : (t : Tree) → Represents s links t → (root t ≡ 0) ⊎ OnWay t l.key r × Toward d l.key (s.key r)
      → find (grown r d l t) l.key ≡ l.value
  find_grown_same empty v w = find_here l empty empty l.key refl
  find_grown_same (node m a b) v (inl z) = absurd (omega (arith, v.0.is_row, z))
  find_grown_same (node m a b) v (inr w) = grown_below_same (node m a b) v w.0 w.1
