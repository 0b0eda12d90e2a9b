-- Trees that have changed at a row are read from the words that a step changes.
use Rattle.std.proofs.Common.{◌≡◌, ◌≢◌, ℕ, ◌+◌, ◌<◌, inl, inr, eqb, eq-eqb, ne_eqb, true, false, Option, refl, ap, sym, ◌∙◌, subst, arith}
use Rattle.std.specs.Prelude.{◌==◌, if◌then◌else◌}
use native.Mathlib.Decide.{ℕ_discrete}
use mathlib.Core.Logic.{dite}
use Rattle.snap_rule.specs.Tree.{Node, Tree, root, Stands, Between, value_word}
use Rattle.snap_stamp.specs.Sides.{other}
use Rattle.snap_stamp.specs.declared.side.Side.{Side}
use Rattle.snap_stamp.specs.declared.side.Side.TheVariants.{Left, Right}
use Rattle.snap_rule.specs.Tree.Tree.{empty, node}
use Rattle.snap_rule.specs.State.{State, Says, Represents}
use Rattle.snap_rule.specs.TreeChanges.{with_value, with_height, renamed, one_of, without, turned, rotated, first_on, grown_below, grown}
use Rattle.snap_rule.proofs.Trees.{child, reads_child, reads_same}
use Rattle.snap_rule.proofs.Trees.Unique.{child_stands, left_key, right_key}

-- the same words, but for links
links_same : (s : State) (l l' : ℕ → Side → ℕ) (t : Tree) → Represents s l t → ((n : ℕ) (e : Side) → Stands n t → l' n e ≡ l n e) → Represents s l' t
links_same s l l' t r f = reads_same s s l l' t r (λ n h. (refl, refl, refl, λ e. f n e h))

module _ (s : State) (l l' : ℕ → Side → ℕ) where
  -- another row in a row's place
  pub root_renamed : (r q : ℕ) (t : Tree) → r ≢ 0 → (root t ≡ r → root (renamed r q t) ≡ q) × (root t ≢ r → root (renamed r q t) ≡ root t)
  root_renamed r q empty z = ((λ e. absurd (z (sym e))), (λ e. refl))
  root_renamed r q (node m a b) z = ((λ e. let g : eqb m.row r ≡ true = eq-eqb m.row r e in rw g), (λ e. let g : eqb m.row r ≡ false = ne_eqb m.row r e in rw g))

  renamed_link : (r q n : ℕ) (e : Side) (t : Tree) → r ≢ 0 → l n e ≡ root t → (l n e ≡ r → l' n e ≡ q) × (l n e ≢ r → l' n e ≡ l n e)
      → l' n e ≡ root (renamed r q t)
  renamed_link r q n e t z h f = dite (ℕ_discrete (root t) r)
      (λ y. f.0 (h ∙ y) ∙ sym ((root_renamed r q t z).0 y))
      (λ y. f.1 (λ x. y (sym h ∙ x)) ∙ h ∙ sym ((root_renamed r q t z).1 y))

  module _ (r q : ℕ) (z : r ≢ 0) (pos : 0 < q) (key : s.key q ≡ s.key r) (value : s.value q ≡ s.value r) (height : s.height q ≡ s.height r) (links : (e : Side) → l' q e ≡ l r e) (own : (e : Side) → l r e ≢ r) where
    pub reads_renamed : (t : Tree) → Represents s l t → ((n : ℕ) (e : Side) → Stands n t → n ≢ r → (l n e ≡ r → l' n e ≡ q) × (l n e ≢ r → l' n e ≡ l n e))
        → Represents s l' (renamed r q t)
    reads_renamed empty v f = tt
    reads_renamed (node m a b) v f =
        let x = reads_renamed a v.3 (λ n e h. f n e (inr (inl h))) in
        let y = reads_renamed b v.4 (λ n e h. f n e (inr (inr h))) in
        dite (ℕ_discrete m.row r)
        (λ e. let g : eqb m.row r ≡ true = eq-eqb m.row r e in
        let same : (d : Side) (t : Tree) → l m.row d ≡ root t → l' q d ≡ root (renamed r q t) = λ d t h. let i : l r d ≡ root t = ap (λ (w : ℕ). l w d) (sym e) ∙ h in links d ∙ i ∙ sym ((root_renamed r q t z).1 (λ w. own d (i ∙ w))) in
        rw g (record { is_row = pos; key = key ∙ ap s.key (sym e) ∙ v.0.key; value = value ∙ ap s.value (sym e) ∙ v.0.value; height = height ∙ ap s.height (sym e) ∙ v.0.height }, same Left a v.1, same Right b v.2, x, y))
        (λ e. let g : eqb m.row r ≡ false = ne_eqb m.row r e in
        rw g (record { is_row = v.0.is_row; key = v.0.key; value = v.0.value; height = v.0.height }, renamed_link r q m.row Left a z v.1 (f m.row Left (inl refl) e), renamed_link r q m.row Right b z v.2 (f m.row Right (inl refl) e), x, y))

  -- without a row that has one child, or none
  one_of_root : (a b : Tree) (r only : ℕ) → Represents s l a → l r Left ≡ root a → l r Right ≡ root b → (l r Left ≡ 0 → only ≡ l r Right)
      → (l r Left ≢ 0 → only ≡ l r Left)
      → root (one_of a b) ≡ only
  one_of_root empty b r only v h i f g = sym i ∙ sym (f h)
  one_of_root (node m x y) b r only v h i f g = sym h ∙ sym (g (λ q. let p = v.0.is_row in omega (arith, h, q)))

  module _ (r only : ℕ) (z : r ≢ 0) (first : l r Left ≡ 0 → only ≡ l r Right) (second : l r Left ≢ 0 → only ≡ l r Left) where
    pub root_without : (t : Tree) → Represents s l t → (root t ≡ r → root (without r t) ≡ only) × (root t ≢ r → root (without r t) ≡ root t)
    root_without empty v = ((λ e. absurd (z (sym e))), (λ e. refl))
    root_without (node m a b) v = (
      (λ e. let g : eqb m.row r ≡ true = eq-eqb m.row r e in rw g (one_of_root a b r only v.3 (ap (λ (w : ℕ). l w Left) (sym e) ∙ v.1) (ap (λ (w : ℕ). l w Right) (sym e) ∙ v.2) first second)),
      (λ e. let g : eqb m.row r ≡ false = ne_eqb m.row r e in rw g),
    )

    without_link : (n : ℕ) (e : Side) (t : Tree) → Represents s l t → l n e ≡ root t → (l n e ≡ r → l' n e ≡ only) × (l n e ≢ r → l' n e ≡ l n e)
        → l' n e ≡ root (without r t)
    without_link n e t v h f = dite (ℕ_discrete (root t) r)
        (λ y. f.0 (h ∙ y) ∙ sym ((root_without t v).0 y))
        (λ y. f.1 (λ x. y (sym h ∙ x)) ∙ h ∙ sym ((root_without t v).1 y))

    reads_one_of : (a b : Tree) → Represents s l' a → Represents s l' b → Represents s l' (one_of a b)
    reads_one_of empty b x y = y
    reads_one_of (node m u v) b x y = x

    -- below a row nothing leads to it
    below_left : (low high : ℕ) (m : Node) (a b : Tree) → Between low high (node m a b) → Represents s l (node m a b) → m.row ≡ r
        → ((n : ℕ) (e : Side) → Stands n (node m a b) → n ≢ r → (l n e ≡ r → l' n e ≡ only) × (l n e ≢ r → l' n e ≡ l n e))
        → Represents s l' a
    below_left low high m a b o v q f = links_same s l l' a v.3 (λ n e h. (f n e (inr (inl h)) (λ x. away n h x)).1 (λ x. away (l n e) (child_stands s l a n e v.3 h (λ w. z (sym x ∙ w))) x))
      where
        away : (n : ℕ) → Stands n a → n ≢ r
        away n h x = let k = left_key s l low high m a b n o v h in let w = ap s.key (x ∙ sym q) in omega arith

    below_right : (low high : ℕ) (m : Node) (a b : Tree) → Between low high (node m a b) → Represents s l (node m a b) → m.row ≡ r
        → ((n : ℕ) (e : Side) → Stands n (node m a b) → n ≢ r → (l n e ≡ r → l' n e ≡ only) × (l n e ≢ r → l' n e ≡ l n e))
        → Represents s l' b
    below_right low high m a b o v q f = links_same s l l' b v.4 (λ n e h. (f n e (inr (inr h)) (λ x. away n h x)).1 (λ x. away (l n e) (child_stands s l b n e v.4 h (λ w. z (sym x ∙ w))) x))
      where
        away : (n : ℕ) → Stands n b → n ≢ r
        away n h x = let k = right_key s l low high m a b n o v h in let w = ap s.key (x ∙ sym q) in omega arith

    pub reads_without : (low high : ℕ) (t : Tree) → Between low high t → Represents s l t
        → ((n : ℕ) (e : Side) → Stands n t → n ≢ r → (l n e ≡ r → l' n e ≡ only) × (l n e ≢ r → l' n e ≡ l n e))
        → Represents s l' (without r t)
    reads_without low high empty o v f = tt
    reads_without low high (node m a b) o v f =
        let x = reads_without low m.key a o.2 v.3 (λ n e h. f n e (inr (inl h))) in
        let y = reads_without (m.key + 1) high b o.3 v.4 (λ n e h. f n e (inr (inr h))) in
        dite (ℕ_discrete m.row r)
        (λ e. let g : eqb m.row r ≡ true = eq-eqb m.row r e in rw g (reads_one_of a b (below_left low high m a b o v e f) (below_right low high m a b o v e f)))
        (λ e. let g : eqb m.row r ≡ false = ne_eqb m.row r e in
        rw g (v.0, without_link m.row Left a v.3 v.1 (f m.row Left (inl refl) e), without_link m.row Right b v.4 v.2 (f m.row Right (inl refl) e), x, y))

-- the links of a rotation
pub record Turning (l l' : ℕ → Side → ℕ) (r raised : ℕ) (d : Side) : Type 0 where
  pub is_row : r ≢ 0
  pub raised_is_row : raised ≢ 0
  pub apart : raised ≢ r
  pub is_child : l r d ≡ raised
  pub lowered : l' r d ≡ l raised (other d)
  pub kept : l' r (other d) ≡ l r (other d)
  pub across : l' raised (other d) ≡ r
  pub outer : l' raised d ≡ l raised d

-- the other links of a tree: those to the row come to lead to the raised row
abbrev pub Elsewhere : (l l' : ℕ → Side → ℕ) (r raised : ℕ) → Tree → Type 0
Elsewhere l l' r raised t = (n : ℕ) (e : Side) → Stands n t → n ≢ r → n ≢ raised → (l n e ≡ r → l' n e ≡ raised) × (l n e ≢ r → l' n e ≡ l n e)

module _ (s : State) (l l' : ℕ → Side → ℕ) (r raised : ℕ) where
  root_turned : (d : Side) (m : Node) (a b : Tree) → root (child d a b) ≢ 0 → root (turned d m a b) ≡ root (child d a b)
  root_turned Left m empty b h = absurd (h refl)
  root_turned Left m (node p x y) b h = refl
  root_turned Right m a empty h = absurd (h refl)
  root_turned Right m a (node p x y) h = refl

  pub root_rotated : (d : Side) → Turning l l' r raised d → (t : Tree) → Represents s l t
      → (root t ≡ r → root (rotated r d t) ≡ raised) × (root t ≢ r → root (rotated r d t) ≡ root t)
  root_rotated d w empty v = ((λ e. absurd (w.is_row (sym e))), (λ e. refl))
  root_rotated d w (node m a b) v = (
    (λ e. let g : eqb m.row r ≡ true = eq-eqb m.row r e in let c : root (child d a b) ≡ raised = sym (reads_child s l d m a b v).0 ∙ ap (λ (x : ℕ). l x d) e ∙ w.is_child in
        rw g (root_turned d m a b (λ q. w.raised_is_row (sym c ∙ q)) ∙ c)),
    (λ e. let g : eqb m.row r ≡ false = ne_eqb m.row r e in rw g),
  )

  rotated_link : (d : Side) → Turning l l' r raised d → (n : ℕ) (e : Side) (t : Tree) → Represents s l t → l n e ≡ root t
      → (l n e ≡ r → l' n e ≡ raised) × (l n e ≢ r → l' n e ≡ l n e)
      → l' n e ≡ root (rotated r d t)
  rotated_link d w n e t v h f = dite (ℕ_discrete (root t) r)
      (λ y. f.0 (h ∙ y) ∙ sym ((root_rotated d w t v).0 y))
      (λ y. f.1 (λ x. y (sym h ∙ x)) ∙ h ∙ sym ((root_rotated d w t v).1 y))

  away_links : (u : Tree) → r ≢ 0 → Represents s l u → ((n : ℕ) → Stands n u → (n ≢ r) × (n ≢ raised)) → Elsewhere l l' r raised u → Represents s l' u
  away_links u z v k f = links_same s l l' u v (λ n e h. (f n e h (k n h).0 (k n h).1).1 (λ x. (k (l n e) (child_stands s l u n e v h (λ w. z (sym x ∙ w)))).0 x))

  turned_left : (low high : ℕ) (m p : Node) (x y b : Tree) → Turning l l' r raised Left → Between low high (node m (node p x y) b)
      → Represents s l (node m (node p x y) b) → m.row ≡ r → p.row ≡ raised → Elsewhere l l' r raised (node m (node p x y) b)
      → Represents s l' (node p x (node m y b))
  turned_left low high m p x y b w o v e q f =
      let kp = left_key s l low high m (node p x y) b p.row o v (inl refl) in
      let er = ap s.key e in
      let eq = ap s.key q in (
        v.3.0,
        ap (λ (c : ℕ). l' c Left) q ∙ w.outer ∙ ap (λ (c : ℕ). l c Left) (sym q) ∙ v.3.1,
        ap (λ (c : ℕ). l' c Right) q ∙ w.across ∙ sym e,
        away_links x w.is_row v.3.3 (λ n h. let k = left_key s l low m.key p x y n o.2 v.3 h in ((λ c. let g = ap s.key c in omega arith), (λ c. let g = ap s.key c in omega arith))) (λ n c h. f n c (inr (inl (inr (inl h))))),
        (
          v.0,
          ap (λ (c : ℕ). l' c Left) e ∙ w.lowered ∙ ap (λ (c : ℕ). l c Right) (sym q) ∙ v.3.2,
          ap (λ (c : ℕ). l' c Right) e ∙ w.kept ∙ ap (λ (c : ℕ). l c Right) (sym e) ∙ v.2,
          away_links y w.is_row v.3.4 (λ n h. let k = left_key s l low high m (node p x y) b n o v (inr (inr h)) in let j = right_key s l low m.key p x y n o.2 v.3 h in ((λ c. let g = ap s.key c in omega arith), (λ c. let g = ap s.key c in omega arith))) (λ n c h. f n c (inr (inl (inr (inr h))))),
          away_links b w.is_row v.4 (λ n h. let k = right_key s l low high m (node p x y) b n o v h in ((λ c. let g = ap s.key c in omega arith), (λ c. let g = ap s.key c in omega arith))) (λ n c h. f n c (inr (inr h))),
        ),
      )

  turned_right : (low high : ℕ) (m p : Node) (a x y : Tree) → Turning l l' r raised Right → Between low high (node m a (node p x y))
      → Represents s l (node m a (node p x y)) → m.row ≡ r → p.row ≡ raised → Elsewhere l l' r raised (node m a (node p x y))
      → Represents s l' (node p (node m a x) y)
  turned_right low high m p a x y w o v e q f =
      let kp = right_key s l low high m a (node p x y) p.row o v (inl refl) in
      let er = ap s.key e in
      let eq = ap s.key q in (
        v.4.0,
        ap (λ (c : ℕ). l' c Left) q ∙ w.across ∙ sym e,
        ap (λ (c : ℕ). l' c Right) q ∙ w.outer ∙ ap (λ (c : ℕ). l c Right) (sym q) ∙ v.4.2,
        (
          v.0,
          ap (λ (c : ℕ). l' c Left) e ∙ w.kept ∙ ap (λ (c : ℕ). l c Left) (sym e) ∙ v.1,
          ap (λ (c : ℕ). l' c Right) e ∙ w.lowered ∙ ap (λ (c : ℕ). l c Left) (sym q) ∙ v.4.1,
          away_links a w.is_row v.3 (λ n h. let k = left_key s l low high m a (node p x y) n o v h in ((λ c. let g = ap s.key c in omega arith), (λ c. let g = ap s.key c in omega arith))) (λ n c h. f n c (inr (inl h))),
          away_links x w.is_row v.4.3 (λ n h. let k = right_key s l low high m a (node p x y) n o v (inr (inl h)) in let j = left_key s l (m.key + 1) high p x y n o.3 v.4 h in ((λ c. let g = ap s.key c in omega arith), (λ c. let g = ap s.key c in omega arith))) (λ n c h. f n c (inr (inr (inr (inl h))))),
        ),
        away_links y w.is_row v.4.4 (λ n h. let k = right_key s l (m.key + 1) high p x y n o.3 v.4 h in ((λ c. let g = ap s.key c in omega arith), (λ c. let g = ap s.key c in omega arith))) (λ n c h. f n c (inr (inr (inr (inr h))))),
      )

  turned_reads : (d : Side) (low high : ℕ) (m : Node) (a b : Tree) → Turning l l' r raised d → Between low high (node m a b) → Represents s l (node m a b)
      → m.row ≡ r → Elsewhere l l' r raised (node m a b)
      → Represents s l' (turned d m a b)
  turned_reads Left low high m empty b w o v e f = absurd (w.raised_is_row (sym w.is_child ∙ ap (λ (c : ℕ). l c Left) (sym e) ∙ v.1))
  turned_reads Left low high m (node p x y) b w o v e f = turned_left low high m p x y b w o v e (sym v.1 ∙ ap (λ (c : ℕ). l c Left) e ∙ w.is_child) f
  turned_reads Right low high m a empty w o v e f = absurd (w.raised_is_row (sym w.is_child ∙ ap (λ (c : ℕ). l c Right) (sym e) ∙ v.2))
  turned_reads Right low high m a (node p x y) w o v e f = turned_right low high m p a x y w o v e (sym v.2 ∙ ap (λ (c : ℕ). l c Right) e ∙ w.is_child) f

  pub reads_rotated : (d : Side) (low high : ℕ) (t : Tree) → Turning l l' r raised d → Between low high t → Represents s l t → root t ≢ raised
      → ((n : ℕ) (e : Side) → Stands n t → l n e ≡ raised → n ≡ r) → Elsewhere l l' r raised t
      → Represents s l' (rotated r d t)
  reads_rotated d low high empty w o v top only f = tt
  reads_rotated d low high (node m a b) w o v top only f =
      let below : (c : Side) → m.row ≢ r → root (child c a b) ≢ raised = λ c e q. e (only m.row c (inl refl) ((reads_child s l c m a b v).0 ∙ q)) in
      let x : m.row ≢ r → Represents s l' (rotated r d a) = λ e. reads_rotated d low m.key a w o.2 v.3 (below Left e) (λ n c h. only n c (inr (inl h))) (λ n c h. f n c (inr (inl h))) in
      let y : m.row ≢ r → Represents s l' (rotated r d b) = λ e. reads_rotated d (m.key + 1) high b w o.3 v.4 (below Right e) (λ n c h. only n c (inr (inr h))) (λ n c h. f n c (inr (inr h))) in
      dite (ℕ_discrete m.row r)
      (λ e. let g : eqb m.row r ≡ true = eq-eqb m.row r e in rw g (turned_reads d low high m a b w o v e f))
      (λ e. let g : eqb m.row r ≡ false = ne_eqb m.row r e in
      rw g (v.0, rotated_link d w m.row Left a v.3 v.1 (f m.row Left (inl refl) e top), rotated_link d w m.row Right b v.4 v.2 (f m.row Right (inl refl) e top), x e, y e))

-- with a leaf below a row
module _ (s : State) (l l' : ℕ → Side → ℕ) (r : ℕ) (leaf : Node) (says : Says s leaf) (ends : (e : Side) → l' leaf.row e ≡ 0) where
  leaf_reads : Represents s l' (node leaf empty empty)
  leaf_reads = (says, ends Left, ends Right, tt, tt)

  pub root_grown : (d : Side) (t : Tree) → root (grown_below r d leaf t) ≡ root t
  root_grown d empty = refl
  root_grown d (node m a b) = dite (ℕ_discrete m.row r)
      (λ e. let g : eqb m.row r ≡ true = eq-eqb m.row r e in rw g (top d a b))
      (λ e. let g : eqb m.row r ≡ false = ne_eqb m.row r e in rw g)
    where
      top : (d : Side) (a b : Tree) → root (first_on d m a b leaf) ≡ m.row
      top Left empty b = refl
      top Left (node p x y) b = refl
      top Right a empty = refl
      top Right a (node p x y) = refl

  first_reads : (d : Side) (m : Node) (a b : Tree) → root (child d a b) ≡ 0 → Represents s l (node m a b) → l' m.row d ≡ leaf.row
      → l' m.row (other d) ≡ l m.row (other d) → Represents s l' a → Represents s l' b
      → Represents s l' (first_on d m a b leaf)
  first_reads Left m empty b z v h i x y = (v.0, h, i ∙ v.2, leaf_reads, y)
  first_reads Left m (node p u w) b z v h i x y = absurd (omega (arith, v.3.0.is_row, z))
  first_reads Right m a empty z v h i x y = (v.0, i ∙ v.1, h, x, leaf_reads)
  first_reads Right m a (node p u w) z v h i x y = absurd (omega (arith, v.4.0.is_row, z))

  module _ (d : Side) (none : l r d ≡ 0) (set : l' r d ≡ leaf.row) (rest : (n : ℕ) (e : Side) → n ≢ leaf.row → ((n ≡ r) × (e ≡ d) → ⊥) → l' n e ≡ l n e) where
    pub reads_grown_below : (low high : ℕ) (t : Tree) → Between low high t → Represents s l t → ¬ Stands leaf.row t → Represents s l' (grown_below r d leaf t)
    reads_grown_below low high empty o v fresh = tt
    reads_grown_below low high (node m a b) o v fresh =
        let own : m.row ≢ leaf.row = λ q. fresh (inl (sym q)) in
        let x = reads_grown_below low m.key a o.2 v.3 (λ h. fresh (inr (inl h))) in
        let y = reads_grown_below (m.key + 1) high b o.3 v.4 (λ h. fresh (inr (inr h))) in
        dite (ℕ_discrete m.row r)
        (λ e. let g : eqb m.row r ≡ true = eq-eqb m.row r e in
        let kr = ap s.key e in
        rw g (first_reads d m a b (sym (reads_child s l d m a b v).0 ∙ ap (λ (c : ℕ). l c d) e ∙ none) v (ap (λ (c : ℕ). l' c d) e ∙ set) (rest m.row (other d) own (λ q. across d q.1))
        (links_same s l l' a v.3 (λ n c h. rest n c (λ q. fresh (inr (inl (subst (λ (z : ℕ). Stands z a) q h)))) (λ q. let k = left_key s l low high m a b n o v h in let j = ap s.key q.0 in omega arith)))
        (links_same s l l' b v.4 (λ n c h. rest n c (λ q. fresh (inr (inr (subst (λ (z : ℕ). Stands z b) q h)))) (λ q. let k = right_key s l low high m a b n o v h in let j = ap s.key q.0 in omega arith)))))
        (λ e. let g : eqb m.row r ≡ false = ne_eqb m.row r e in
        rw g (v.0, rest m.row Left own (λ q. e q.0) ∙ v.1 ∙ sym (root_grown d a), rest m.row Right own (λ q. e q.0) ∙ v.2 ∙ sym (root_grown d b), x, y))
      where
        across : (d : Side) → other d ≡ d → ⊥
        across Left q = cc
        across Right q = cc

    pub reads_grown : (low high : ℕ) (t : Tree) → Between low high t → Represents s l t → ¬ Stands leaf.row t → Represents s l' (grown r d leaf t)
    reads_grown low high empty o v fresh = leaf_reads
    reads_grown low high (node m a b) o v fresh = reads_grown_below low high (node m a b) o v fresh

  pub root_of_grown : (d : Side) (t : Tree)
      → (root t ≡ 0 → root (grown r d leaf t) ≡ root (grown r d leaf t)) × (root t ≢ 0 → root (grown r d leaf t) ≡ root t)
  root_of_grown d empty = ((λ e. refl), (λ e. absurd (e refl)))
  root_of_grown d (node m a b) = ((λ e. refl), (λ e. root_grown d (node m a b)))

-- with another value or height at a row
pub root_value : (r : ℕ) (o : Option ℕ) (t : Tree) → root (with_value r o t) ≡ root t
root_value r o empty = refl
root_value r o (node n x y) = refl

pub root_height : (r x : ℕ) (t : Tree) → root (with_height r x t) ≡ root t
root_height r x empty = refl
root_height r x (node n y w) = refl

pub reads_value : (s s' : State) (l : ℕ → Side → ℕ) (r : ℕ) (o : Option ℕ) (t : Tree) → Represents s l t → ((n : ℕ) → s'.key n ≡ s.key n)
    → ((n : ℕ) → s'.height n ≡ s.height n) → s'.value r ≡ value_word o → ((n : ℕ) → n ≢ r → s'.value n ≡ s.value n)
    → Represents s' l (with_value r o t)
reads_value s s' l r o empty v key height here there = tt
reads_value s s' l r o (node m a b) v key height here there = (
  record { is_row = v.0.is_row; key = key m.row ∙ v.0.key; value = word; height = height m.row ∙ v.0.height },
  v.1 ∙ sym (root_value r o a),
  v.2 ∙ sym (root_value r o b),
  reads_value s s' l r o a v.3 key height here there,
  reads_value s s' l r o b v.4 key height here there,
)
  where
    word : s'.value m.row ≡ value_word (if m.row == r then o else m.value)
    word = dite (ℕ_discrete m.row r)
        (λ e. let g : eqb m.row r ≡ true = eq-eqb m.row r e in rw g (ap s'.value e ∙ here))
        (λ e. let g : eqb m.row r ≡ false = ne_eqb m.row r e in rw g (there m.row e ∙ v.0.value))

pub reads_height : (s s' : State) (l : ℕ → Side → ℕ) (r x : ℕ) (t : Tree) → Represents s l t → ((n : ℕ) → s'.key n ≡ s.key n)
    → ((n : ℕ) → s'.value n ≡ s.value n) → s'.height r ≡ x → ((n : ℕ) → n ≢ r → s'.height n ≡ s.height n)
    → Represents s' l (with_height r x t)
reads_height s s' l r x empty v key value here there = tt
reads_height s s' l r x (node m a b) v key value here there = (
  record { is_row = v.0.is_row; key = key m.row ∙ v.0.key; value = value m.row ∙ v.0.value; height = word },
  v.1 ∙ sym (root_height r x a),
  v.2 ∙ sym (root_height r x b),
  reads_height s s' l r x a v.3 key value here there,
  reads_height s s' l r x b v.4 key value here there,
)
  where
    word : s'.height m.row ≡ (if m.row == r then x else m.height)
    word = dite (ℕ_discrete m.row r)
        (λ e. let g : eqb m.row r ≡ true = eq-eqb m.row r e in rw g (ap s'.height e ∙ here))
        (λ e. let g : eqb m.row r ≡ false = ne_eqb m.row r e in rw g (there m.row e ∙ v.0.height))
