-- Search paths to rows and to their children.
use Rattle.std.proofs.Common.{◌≡◌, ◌≢◌, ℕ, ◌+◌, ◌<◌, ◌⊎◌, inl, inr, ap, sym, ◌∙◌, subst, arith}
use Rattle.snap_stamp.specs.declared.side.Side.{Side}
use Rattle.snap_rule.specs.Tree.{Node, Tree, root, Stands, OnWay, Between}
use Rattle.snap_stamp.specs.Sides.{Toward}
use Rattle.snap_stamp.specs.declared.side.Side.TheVariants.{Left, Right}
use Rattle.snap_rule.specs.Tree.Tree.{empty, node}
use Rattle.snap_rule.specs.State.{State, Represents}
use Rattle.snap_rule.proofs.Trees.{key_between, way_stands}
use Rattle.snap_rule.proofs.Trees.Unique.{root_stands, child_stands}

module _ (s : State) (l : ℕ → Side → ℕ) where
  -- the path of the key at the top is the top
  pub way_top : (t : Tree) (x : ℕ) → Represents s l t → OnWay t (s.key (root t)) x → x ≡ root t
  way_top empty x v w = absurd w
  way_top (node m a b) x v (inl e) = e
  way_top (node m a b) x v (inr (inl w)) = let q = v.0.key in absurd (omega (arith, w.0))
  way_top (node m a b) x v (inr (inr w)) = let q = v.0.key in absurd (omega (arith, w.0))

  -- which side a row stands on
  in_left : (low high : ℕ) (m : Node) (a b : Tree) (k x : ℕ) → Between low high (node m a b) → k < m.key → OnWay (node m a b) k x
      → (x ≡ m.row) ⊎ OnWay a k x
  in_left low high m a b k x o y (inl e) = inl e
  in_left low high m a b k x o y (inr (inl w)) = inr w.1
  in_left low high m a b k x o y (inr (inr w)) = absurd (omega (arith, w.0, y))

  in_right : (low high : ℕ) (m : Node) (a b : Tree) (k x : ℕ) → Between low high (node m a b) → m.key < k → OnWay (node m a b) k x
      → (x ≡ m.row) ⊎ OnWay b k x
  in_right low high m a b k x o y (inl e) = inl e
  in_right low high m a b k x o y (inr (inl w)) = absurd (omega (arith, w.0, y))
  in_right low high m a b k x o y (inr (inr w)) = inr w.1

  low_key : (low high : ℕ) (m : Node) (a b : Tree) (n : ℕ) → Between low high (node m a b) → Represents s l (node m a b) → Stands n a → s.key n < m.key
  low_key low high m a b n o v h = (key_between s l low m.key a n o.2 v.3 h).1

  high_key : (low high : ℕ) (m : Node) (a b : Tree) (n : ℕ) → Between low high (node m a b) → Represents s l (node m a b) → Stands n b → m.key < s.key n
  high_key low high m a b n o v h = let q = key_between s l (m.key + 1) high b n o.3 v.4 h in omega (arith, q.0)

  -- the path of a row's key is the beginning of that of its child's key
  pub way_down : (low high : ℕ) (t : Tree) (n : ℕ) (d : Side) (x : ℕ) → Between low high t → Represents s l t → Stands n t → l n d ≢ 0
      → OnWay t (s.key n) x
      → OnWay t (s.key (l n d)) x
  way_down low high empty n d x o v h z w = w
  way_down low high (node m a b) n d x o v (inl e) z w = inl (way_top (node m a b) x v (subst (λ (y : ℕ). OnWay (node m a b) (s.key y) x) e w))
  way_down low high (node m a b) n d x o v (inr (inl h)) z w =
      let c = low_key low high m a b (l n d) o v (child_stands s l a n d v.3 h z) in
      elim (in_left low high m a b (s.key n) x o (low_key low high m a b n o v h) w) [ inl e ↦ inl e | inr y ↦ inr (inl (c, way_down low m.key a n d x o.2 v.3 h z y)) ]
  way_down low high (node m a b) n d x o v (inr (inr h)) z w =
      let c = high_key low high m a b (l n d) o v (child_stands s l b n d v.4 h z) in
      elim (in_right low high m a b (s.key n) x o (high_key low high m a b n o v h) w) [ inl e ↦ inl e | inr y ↦ inr (inr (c, way_down (m.key + 1) high b n d x o.3 v.4 h z y)) ]

  -- and that of the child's key has no more than the child beside
  at_top : (low high : ℕ) (m : Node) (a b : Tree) (d : Side) (x : ℕ) → Between low high (node m a b) → Represents s l (node m a b) → l m.row d ≢ 0
      → x ≢ l m.row d → OnWay (node m a b) (s.key (l m.row d)) x
      → x ≡ m.row
  at_top low high m a b Left x o v z y w =
      let i : Stands (root a) a = root_stands a (λ q. z (v.1 ∙ q)) in
      let w' : OnWay (node m a b) (s.key (root a)) x = subst (λ (c : ℕ). OnWay (node m a b) (s.key c) x) v.1 w in
      elim (in_left low high m a b (s.key (root a)) x o (low_key low high m a b (root a) o v i) w') [ inl e ↦ e | inr u ↦ absurd (y (way_top a x v.3 u ∙ sym v.1)) ]
  at_top low high m a b Right x o v z y w =
      let i : Stands (root b) b = root_stands b (λ q. z (v.2 ∙ q)) in
      let w' : OnWay (node m a b) (s.key (root b)) x = subst (λ (c : ℕ). OnWay (node m a b) (s.key c) x) v.2 w in
      elim (in_right low high m a b (s.key (root b)) x o (high_key low high m a b (root b) o v i) w') [ inl e ↦ e | inr u ↦ absurd (y (way_top b x v.4 u ∙ sym v.2)) ]

  pub way_up : (low high : ℕ) (t : Tree) (n : ℕ) (d : Side) (x : ℕ) → Between low high t → Represents s l t → Stands n t → l n d ≢ 0 → x ≢ l n d
      → OnWay t (s.key (l n d)) x
      → OnWay t (s.key n) x
  way_up low high empty n d x o v h z y w = w
  way_up low high (node m a b) n d x o v (inl e) z y w =
      inl (at_top low high m a b d x o v (λ q. z (ap (λ (c : ℕ). l c d) e ∙ q)) (λ q. y (q ∙ ap (λ (c : ℕ). l c d) (sym e))) (subst (λ (c : ℕ). OnWay (node m a b) (s.key (l c d)) x) e w))
  way_up low high (node m a b) n d x o v (inr (inl h)) z y w =
      let c = low_key low high m a b (l n d) o v (child_stands s l a n d v.3 h z) in
      elim (in_left low high m a b (s.key (l n d)) x o c w) [ inl e ↦ inl e | inr u ↦ inr (inl (low_key low high m a b n o v h, way_up low m.key a n d x o.2 v.3 h z y u)) ]
  way_up low high (node m a b) n d x o v (inr (inr h)) z y w =
      let c = high_key low high m a b (l n d) o v (child_stands s l b n d v.4 h z) in
      elim (in_right low high m a b (s.key (l n d)) x o c w) [ inl e ↦ inl e | inr u ↦ inr (inr (high_key low high m a b n o v h, way_up (m.key + 1) high b n d x o.3 v.4 h z y u)) ]

  -- a row of the path is on the path of the key of another one, or below the link of that one
  pub record Beyond (t : Tree) (c x : ℕ) : Type 0 where
    pub part : Tree
    pub top : c ≡ root part
    pub reads : Represents s l part
    pub stands : (r : ℕ) → Stands r part → Stands r t
    pub is_in : Stands x part

  stop_here : (d : Side) (m : Node) (a b : Tree) (k n x : ℕ) → Represents s l (node m a b) → n ≡ m.row → Toward d k (s.key n) → OnWay (node m a b) k x
      → OnWay (node m a b) (s.key n) x ⊎ Beyond (node m a b) (l n d) x
  stop_here d m a b k n x v e y (inl q) = inl (inl q)
  stop_here Left m a b k n x v e y (inr (inl w)) = inr (record { part = a; top = ap (λ (c : ℕ). l c Left) e ∙ v.1; reads = v.3; stands = λ r h. inr (inl h); is_in = way_stands a k x w.1 })
  stop_here Right m a b k n x v e y (inr (inl w)) = let q : s.key n ≡ m.key = ap s.key e ∙ v.0.key in absurd (omega (arith, w.0, y))
  stop_here Left m a b k n x v e y (inr (inr w)) = let q : s.key n ≡ m.key = ap s.key e ∙ v.0.key in absurd (omega (arith, w.0, y))
  stop_here Right m a b k n x v e y (inr (inr w)) = inr (record { part = b; top = ap (λ (c : ℕ). l c Right) e ∙ v.2; reads = v.4; stands = λ r h. inr (inr h); is_in = way_stands b k x w.1 })

  wider_left : (m : Node) (a b : Tree) (c x : ℕ) → Beyond a c x → Beyond (node m a b) c x
  wider_left m a b c x u = record { part = u.part; top = u.top; reads = u.reads; stands = λ r h. inr (inl (u.stands r h)); is_in = u.is_in }

  wider_right : (m : Node) (a b : Tree) (c x : ℕ) → Beyond b c x → Beyond (node m a b) c x
  wider_right m a b c x u = record { part = u.part; top = u.top; reads = u.reads; stands = λ r h. inr (inr (u.stands r h)); is_in = u.is_in }

  pub way_stop : (low high : ℕ) (t : Tree) (k n : ℕ) (d : Side) (x : ℕ) → Between low high t → Represents s l t → OnWay t k n → Toward d k (s.key n)
      → OnWay t k x
      → OnWay t (s.key n) x ⊎ Beyond t (l n d) x
  way_stop low high empty k n d x o v p y w = absurd w
  way_stop low high (node m a b) k n d x o v (inl e) y w = stop_here d m a b k n x v e y w
  way_stop low high (node m a b) k n d x o v (inr (inl p)) y w = elim (in_left low high m a b k x o p.0 w) [
    | inl e ↦ inl (inl e)
    | inr u ↦ (elim (way_stop low m.key a k n d x o.2 v.3 p.1 y u) [ inl z ↦ inl (inr (inl (low_key low high m a b n o v (way_stands a k n p.1), z))) | inr z ↦ inr (wider_left m a b (l n d) x z) ])
  ]
  way_stop low high (node m a b) k n d x o v (inr (inr p)) y w = elim (in_right low high m a b k x o p.0 w) [
    | inl e ↦ inl (inl e)
    | inr u ↦ (elim (way_stop (m.key + 1) high b k n d x o.3 v.4 p.1 y u) [ inl z ↦ inl (inr (inr (high_key low high m a b n o v (way_stands b k n p.1), z))) | inr z ↦ inr (wider_right m a b (l n d) x z) ])
  ]
