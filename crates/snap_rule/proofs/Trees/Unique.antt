-- In an ordered tree each row has one parent.
use Rattle.std.proofs.Common.{◌≡◌, ◌≢◌, ℕ, ◌+◌, ◌<◌, inl, inr, refl, ap, sym, ◌∙◌, subst, arith}
use Rattle.snap_rule.specs.Tree.{Node, Tree, root, Stands, Between}
use Rattle.snap_stamp.specs.declared.side.Side.{Side}
use Rattle.snap_stamp.specs.declared.side.Side.TheVariants.{Left, Right}
use Rattle.snap_rule.specs.Tree.Tree.{empty, node}
use Rattle.snap_rule.specs.State.{State, Represents}
use Rattle.snap_rule.proofs.Trees.{child, reads_child, key_between}

pub root_stands : (t : Tree) → root t ≢ 0 → Stands (root t) t
root_stands empty z = z refl
root_stands (node m a b) z = inl refl

child_in : (d : Side) (m : Node) (a b : Tree) (r : ℕ) → Stands r (child d a b) → Stands r (node m a b)
child_in Left m a b r h = inr (inl h)
child_in Right m a b r h = inr (inr h)

module _ (s : State) (l : ℕ → Side → ℕ) where
  -- what a row of the tree leads to stands in the tree
  pub child_stands : (t : Tree) (n : ℕ) (e : Side) → Represents s l t → Stands n t → l n e ≢ 0 → Stands (l n e) t
  child_stands empty n e r h z = h
  child_stands (node m a b) n e r (inl q) z =
      let c = (reads_child s l e m a b r).0 in
      let g : l n e ≡ root (child e a b) = ap (λ (x : ℕ). l x e) q ∙ c in
      subst (λ (x : ℕ). Stands x (node m a b)) (sym g) (child_in e m a b (root (child e a b)) (root_stands (child e a b) (λ y. z (g ∙ y))))
  child_stands (node m a b) n e r (inr (inl h)) z = inr (inl (child_stands a n e r.3 h z))
  child_stands (node m a b) n e r (inr (inr h)) z = inr (inr (child_stands b n e r.4 h z))

  -- a row of the left or right part isn't the top, nor in the other part
  pub left_key : (low high : ℕ) (m : Node) (a b : Tree) (n : ℕ) → Between low high (node m a b) → Represents s l (node m a b) → Stands n a
      → s.key n < s.key m.row
  left_key low high m a b n o r h = let k = key_between s l low m.key a n o.2 r.3 h in let q = r.0.key in omega arith

  pub right_key : (low high : ℕ) (m : Node) (a b : Tree) (n : ℕ) → Between low high (node m a b) → Represents s l (node m a b) → Stands n b
      → s.key m.row < s.key n
  right_key low high m a b n o r h = let k = key_between s l (m.key + 1) high b n o.3 r.4 h in let q = r.0.key in omega arith

  -- nothing leads to the top
  pub no_loop : (low high : ℕ) (t : Tree) (n : ℕ) (e : Side) → Between low high t → Represents s l t → Stands n t → root t ≢ 0 → l n e ≢ root t
  no_loop low high empty n e o r h z q = z refl
  no_loop low high (node m a b) n e o r h z q = below h
    where
      top_not_left : Stands m.row a → ⊥
      top_not_left i = let k = left_key low high m a b m.row o r i in omega arith

      top_not_right : Stands m.row b → ⊥
      top_not_right i = let k = right_key low high m a b m.row o r i in omega arith

      here : (e : Side) → l m.row e ≡ m.row → ⊥
      here Left g = top_not_left (subst (λ (x : ℕ). Stands x a) (sym r.1 ∙ g) (root_stands a (λ y. z (sym g ∙ r.1 ∙ y))))
      here Right g = top_not_right (subst (λ (x : ℕ). Stands x b) (sym r.2 ∙ g) (root_stands b (λ y. z (sym g ∙ r.2 ∙ y))))

      below : Stands n (node m a b) → ⊥
      below (inl g) = here e (ap (λ (x : ℕ). l x e) (sym g) ∙ q)
      below (inr (inl i)) = top_not_left (subst (λ (x : ℕ). Stands x a) q (child_stands a n e r.3 i (λ y. z (sym q ∙ y))))
      below (inr (inr i)) = top_not_right (subst (λ (x : ℕ). Stands x b) q (child_stands b n e r.4 i (λ y. z (sym q ∙ y))))

  pub sides_apart : (low high : ℕ) (m : Node) (a b : Tree) (c : ℕ) → Between low high (node m a b) → Represents s l (node m a b) → Stands c a → Stands c b
      → ⊥
  sides_apart low high m a b c o r h i = let x = left_key low high m a b c o r h in let y = right_key low high m a b c o r i in omega arith

  top_sides : (low high : ℕ) (m : Node) (a b : Tree) (e e' : Side) → Between low high (node m a b) → Represents s l (node m a b) → l m.row e ≡ l m.row e'
      → l m.row e ≢ 0
      → e ≡ e'
  top_sides low high m a b Left Left o r q z = refl
  top_sides low high m a b Right Right o r q z = refl
  top_sides low high m a b Left Right o r q z = absurd (sides_apart low high m a b (l m.row Left) o r (subst (λ (x : ℕ). Stands x a) (sym r.1) (root_stands a (λ y. z (r.1 ∙ y)))) (subst (λ (x : ℕ). Stands x b) (sym (q ∙ r.2)) (root_stands b (λ y. z (q ∙ r.2 ∙ y)))))
  top_sides low high m a b Right Left o r q z = absurd (sides_apart low high m a b (l m.row Right) o r (subst (λ (x : ℕ). Stands x a) (sym (q ∙ r.1)) (root_stands a (λ y. z (q ∙ r.1 ∙ y)))) (subst (λ (x : ℕ). Stands x b) (sym r.2) (root_stands b (λ y. z (r.2 ∙ y)))))

  -- the top and a row below it lead to no common row
  top_left : (low high : ℕ) (m : Node) (a b : Tree) (n : ℕ) (e e' : Side) → Between low high (node m a b) → Represents s l (node m a b) → Stands n a
      → l m.row e ≡ l n e' → l n e' ≢ 0
      → ⊥
  top_left low high m a b n Left e' o r i q z = no_loop low m.key a n e' o.2 r.3 i (λ y. z (sym q ∙ r.1 ∙ y)) (sym q ∙ r.1)
  top_left low high m a b n Right e' o r i q z = sides_apart low high m a b (l n e') o r (child_stands a n e' r.3 i z) (subst (λ (x : ℕ). Stands x b) (sym (sym q ∙ r.2)) (root_stands b (λ y. z (sym q ∙ r.2 ∙ y))))

  top_right : (low high : ℕ) (m : Node) (a b : Tree) (n : ℕ) (e e' : Side) → Between low high (node m a b) → Represents s l (node m a b) → Stands n b
      → l m.row e ≡ l n e' → l n e' ≢ 0
      → ⊥
  top_right low high m a b n Right e' o r i q z = no_loop (m.key + 1) high b n e' o.3 r.4 i (λ y. z (sym q ∙ r.2 ∙ y)) (sym q ∙ r.2)
  top_right low high m a b n Left e' o r i q z = sides_apart low high m a b (l n e') o r (subst (λ (x : ℕ). Stands x a) (sym (sym q ∙ r.1)) (root_stands a (λ y. z (sym q ∙ r.1 ∙ y)))) (child_stands b n e' r.4 i z)

  -- two links to one row are one
  pub one_parent : (low high : ℕ) (t : Tree) (n n' : ℕ) (e e' : Side) → Between low high t → Represents s l t → Stands n t → Stands n' t → l n e ≡ l n' e'
      → l n e ≢ 0
      → (n ≡ n') × (e ≡ e')
  one_parent low high empty n n' e e' o r h h' q z = absurd h
  one_parent low high (node m a b) n n' e e' o r (inl g) (inl g') q z =
      let f : l n e ≡ l m.row e = ap (λ (x : ℕ). l x e) g in
      (g ∙ sym g', top_sides low high m a b e e' o r (sym f ∙ q ∙ ap (λ (x : ℕ). l x e') g') (λ y. z (f ∙ y)))
  one_parent low high (node m a b) n n' e e' o r (inl g) (inr (inl i')) q z = absurd (top_left low high m a b n' e e' o r i' (sym (ap (λ (x : ℕ). l x e) g) ∙ q) (λ y. z (q ∙ y)))
  one_parent low high (node m a b) n n' e e' o r (inl g) (inr (inr i')) q z = absurd (top_right low high m a b n' e e' o r i' (sym (ap (λ (x : ℕ). l x e) g) ∙ q) (λ y. z (q ∙ y)))
  one_parent low high (node m a b) n n' e e' o r (inr (inl i)) (inl g') q z = absurd (top_left low high m a b n e' e o r i (sym (ap (λ (x : ℕ). l x e') g') ∙ sym q) z)
  one_parent low high (node m a b) n n' e e' o r (inr (inr i)) (inl g') q z = absurd (top_right low high m a b n e' e o r i (sym (ap (λ (x : ℕ). l x e') g') ∙ sym q) z)
  one_parent low high (node m a b) n n' e e' o r (inr (inl i)) (inr (inl i')) q z = one_parent low m.key a n n' e e' o.2 r.3 i i' q z
  one_parent low high (node m a b) n n' e e' o r (inr (inr i)) (inr (inr i')) q z = one_parent (m.key + 1) high b n n' e e' o.3 r.4 i i' q z
  one_parent low high (node m a b) n n' e e' o r (inr (inl i)) (inr (inr i')) q z = absurd (sides_apart low high m a b (l n e) o r (child_stands a n e r.3 i z) (subst (λ (x : ℕ). Stands x b) (sym q) (child_stands b n' e' r.4 i' (λ y. z (q ∙ y)))))
  one_parent low high (node m a b) n n' e e' o r (inr (inr i)) (inr (inl i')) q z = absurd (sides_apart low high m a b (l n e) o r (subst (λ (x : ℕ). Stands x a) (sym q) (child_stands a n' e' r.3 i' (λ y. z (q ∙ y)))) (child_stands b n e r.4 i z))
