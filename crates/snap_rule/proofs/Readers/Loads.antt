-- What each load of a reader brings it to.
use Rattle.std.proofs.Common.{◌≡◌, ℕ, ◌≢◌, ◌^◌, ◌⊎◌, inl, inr, List, None, refl, ap, sym, ◌∙◌, subst, ap₂, arith}
use Rattle.snap_model.specs.History.{Begins, told}
use Rattle.snap_rule.specs.Moments.{AtSome}
use Rattle.snap_model.specs.declared.call.Entry.{Entry}
use Rattle.snap_rule.specs.Tree.{Node, Tree, root, find, Stands, OnWay, value_word}
use Rattle.snap_stamp.specs.Sides.{Toward}
use Rattle.snap_stamp.specs.declared.side.Side.{Side}
use Rattle.snap_stamp.specs.declared.side.Side.TheVariants.{Left, Right}
use Rattle.snap_rule.specs.Tree.Tree.{empty, node}
use Rattle.snap_rule.specs.State.{State, Change, In, IsShared, IsImage, Represents}
use Rattle.snap_stamp.specs.Stamps.{IsUnmarked, IsUnlinked, IsShrinking}
use Rattle.snap_rule.specs.State.Change.{plain, unlinking, lowering, raising}
use Rattle.snap_rule.specs.Position.{OnImage, IsPlaced, Faces, IsStanding}
use Rattle.snap_rule.specs.ChildCheck.{WasAbsent}
use Rattle.snap_rule.specs.Reader.{ReaderOk}
use Rattle.snap_rule.specs.declared.reader.Point.TheVariants.{Standing, NoLink, Linked, Stamped}
use Rattle.snap_rule.specs.Rule.{TreeOk, LinksOk, ChangesOk, LinkFits}
use Rattle.snap_rule.proofs.Moments.{now, at_moment}
use Rattle.snap_rule.proofs.Trees.{child, find_toward, way_toward, way_stands, reads_child, each_child, find_none, finds_value, SubtreeAt, subtree_at, own_way, row_positive}

-- the part of the tree to which a search for k goes on
pub record TreeBelow (s : State) (k r : ℕ) : Type 0 where
  pub part : Tree
  pub top : root part ≡ r
  pub reads : Represents s s.links part
  pub finds : find part k ≡ told s.history k
  pub stands : (n : ℕ) → Stands n part → Stands n s.tree
  pub way : (n : ℕ) → OnWay part k n → OnWay s.tree k n

-- the part of an image to which it goes on
pub record ImageBelow (s : State) (seen : List Entry) (k r : ℕ) : Type 0 where
  pub part : Tree
  pub image : IsImage s r part
  pub tells : AtSome seen s.history (λ p. find part k ≡ told p k)

-- the value of a tree's top row, where it has the key
pub top_value : (s : State) (l : ℕ → Side → ℕ) (t : Tree) (k c : ℕ) → Represents s l t → root t ≡ c → c ≢ 0 → s.key c ≡ k
    → s.value c ≡ value_word (find t k)
top_value s l empty k c r e z q = absurd (z (sym e))
top_value s l (node m a b) k c r e z q = subst (λ (x : ℕ). s.value x ≡ value_word (find (node m a b) k)) e (finds_value s l m a b k r (ap s.key e ∙ q))

pub unmarked_unlinked : (w : ℕ) → IsUnmarked w → IsUnlinked w → ⊥
unmarked_unlinked w a b = omega arith

pub unmarked_shrinking : (w : ℕ) → IsUnmarked w → IsShrinking w → ⊥
unmarked_shrinking w a b = omega arith

-- a row of the tree is found by its own key
pub own_told : (s : State) → TreeOk s → (c : ℕ) → Stands c s.tree → s.value c ≡ value_word (told s.history (s.key c))
own_told s tree_ok c h =
    let u = subtree_at s s.links s.tree (s.key c) c tree_ok.reads (own_way s s.links 0 (2 ^ 64) s.tree c tree_ok.ordered tree_ok.reads h) in
    let z = row_positive s s.links s.tree c tree_ok.reads h in
    top_value s s.links (node u.top u.on_left u.on_right) (s.key c) c u.reads u.row (λ e. omega arith) refl ∙ ap value_word (u.finds ∙ tree_ok.tells (s.key c))

module _ (s : State) (tree_ok : TreeOk s) (links_ok : LinksOk s) (changes_ok : ChangesOk s) where
  pub linked_row : (n : ℕ) → In n s.linked → n ≢ 0
  linked_row n h e = links_ok.no_zero (rw e at h)

  pub tree_row : (n : ℕ) → Stands n s.tree → n ≢ 0
  tree_row n h = linked_row n (tree_ok.rows n h).0

  -- going on in the tree
  tree_below_node : (k n : ℕ) (d : Side) → Toward d k (s.key n) → SubtreeAt s s.links s.tree k n → TreeBelow s k (s.links n d)
  tree_below_node k n d f u =
      let c = reads_child s s.links d u.top u.on_left u.on_right u.reads in
      let t : Toward d k u.top.key = subst (Toward d k) (sym (ap s.key u.row) ∙ u.reads.0.key) f in
      record {
        part = child d u.on_left u.on_right;
        top = sym c.0 ∙ ap (λ (x : ℕ). s.links x d) u.row;
        reads = c.1;
        finds = sym (find_toward d u.top u.on_left u.on_right k t) ∙ u.finds ∙ tree_ok.tells k;
        stands = λ r h. u.stands r (stands_child d u.top u.on_left u.on_right r h);
        way = λ r w. u.way r (way_toward d u.top u.on_left u.on_right k r t w);
      }
    where
      stands_child : (d : Side) (m : Node) (a b : Tree) (r : ℕ) → Stands r (child d a b) → Stands r (node m a b)
      stands_child Left m a b r h = inr (inl h)
      stands_child Right m a b r h = inr (inr h)

  pub tree_below : (k n : ℕ) (d : Side) → Faces s n k d → (n ≡ 0) ⊎ OnWay s.tree k n → TreeBelow s k (s.links n d)
  tree_below k n d (inl f) (inl z) = record {
    part = s.tree;
    top = sym tree_ok.root ∙ sym (ap₂ s.links z f.1);
    reads = tree_ok.reads;
    finds = tree_ok.tells k;
    stands = λ r h. h;
    way = λ r w. w;
  }
  tree_below k n d (inl f) (inr w) = absurd (tree_row n (way_stands s.tree k n w) f.0)
  tree_below k n d (inr f) (inl z) = absurd (f.0 z)
  tree_below k n d (inr f) (inr w) = tree_below_node k n d f.1 (subtree_at s s.links s.tree k n tree_ok.reads w)

  -- going on in an image
  image_below_child : (seen : List Entry) (k n : ℕ) (d : Side) (t : Tree) → n ≢ 0 → Toward d k (s.key n) → IsImage s n t
      → AtSome seen s.history (λ p. find t k ≡ told p k)
      → ImageBelow s seen k (s.link n d)
  image_below_child seen k n d empty z f i a = absurd (z (sym i.top))
  image_below_child seen k n d (node m a b) z f i t =
      let c = reads_child s s.link d m a b i.reads in
      let g : Toward d k m.key = subst (Toward d k) (sym (ap s.key i.top) ∙ i.reads.0.key) f in
      record {
        part = child d a b;
        image = record { top = sym c.0 ∙ ap (λ (x : ℕ). s.link x d) i.top; reads = c.1; rows = each_child (λ r. In r s.linked × IsShared s r) d m a b i.rows };
        tells = at_moment seen s.history (λ p. find (node m a b) k ≡ told p k) (λ p. find (child d a b) k ≡ told p k) (λ p e. sym (find_toward d m a b k g) ∙ e) t;
      }

  pub image_below : (seen : List Entry) (k n : ℕ) (d : Side) → Faces s n k d → OnImage s seen n k → ImageBelow s seen k (s.link n d)
  image_below seen k n d (inl f) o = absurd (omega (arith, f.0, o.shared.is_row))
  image_below seen k n d (inr f) o = image_below_child seen k n d o.image f.0 f.1 o.is_image o.tells

  -- where a link is in no change but perhaps that of its row's being lowered or raised
  link_zero : (n v : ℕ) (d : Side) (c : Change) → IsUnmarked v → s.stamp n ≡ v → s.link n d ≡ 0 → LinkFits s n d c → s.links n d ≡ 0
  link_zero n v d plain u e z f = sym f ∙ z
  link_zero n v d (unlinking c) u e z f = absurd (f.1 (sym f.0 ∙ z))
  link_zero n v d (lowering c) u e z f = absurd (unmarked_shrinking v u (rw e at f.1))
  link_zero n v d (raising c) u e z f = absurd (tree_row c f.1.stands (sym f.0 ∙ z))

  pub tree_absent : (k r : ℕ) → r ≡ 0 → TreeBelow s k r → told s.history k ≡ None
  tree_absent k r z t = sym t.finds ∙ find_none s s.links t.part k t.reads (t.top ∙ z)

  pub in_tree : (seen : List Entry) (k n : ℕ) → IsPlaced s seen n k → ((n ≡ 0) ⊎ OnWay s.tree k n) ⊎ OnImage s seen n k
  in_tree seen k n (inl z) = inl (inl z)
  in_tree seen k n (inr (inl w)) = inl (inr w.1)
  in_tree seen k n (inr (inr o)) = inr o

  pub stands_there : (k n : ℕ) → (n ≡ 0) ⊎ OnWay s.tree k n → (n ≡ 0) ⊎ Stands n s.tree
  stands_there k n (inl z) = inl z
  stands_there k n (inr w) = inr (way_stands s.tree k n w)

  absent_at : (seen : List Entry) (k n v : ℕ) (d : Side) → Begins seen s.history → IsStanding s seen k n v d → s.stamp n ≡ v → s.link n d ≡ 0
      → ((n ≡ 0) ⊎ OnWay s.tree k n) ⊎ OnImage s seen n k
      → WasAbsent s seen k
  absent_at seen k n v d b h e z (inl p) =
      now seen s.history (λ p. told p k ≡ None) b
      (tree_absent k (s.links n d) (link_zero n v d (s.pending n d) h.stamp.unmarked e z (changes_ok.fits n d (stands_there k n p))) (tree_below k n d h.faces p))
  absent_at seen k n v d b h e z (inr o) =
      let i = image_below seen k n d h.faces o in
      at_moment seen s.history (λ p. find i.part k ≡ told p k) (λ p. told p k ≡ None) (λ p q. sym q ∙ find_none s s.link i.part k i.image.reads (i.image.top ∙ z)) i.tells

  -- the first load of the link gave 0
  pub link_none : (seen : List Entry) (k n v : ℕ) (d : Side) → ReaderOk s seen k (Standing n v d) → s.link n d ≡ 0 → ReaderOk s seen k (NoLink n v d)
  link_none seen k n v d h z = record {
    begins = h.begins;
    at_point = (h.at_point, λ e. absent_at seen k n v d h.begins h.at_point e z (in_tree seen k n (h.at_point.placed e)));
  }

  link_to : (n c : ℕ) (d : Side) → s.link n d ≡ c → c ≢ 0 → (s.link n d ≡ 0) ⊎ In (s.link n d) s.linked → In c s.linked
  link_to n c d e z (inl q) = absurd (z (sym e ∙ q))
  link_to n c d e z (inr h) = subst (λ (x : ℕ). In x s.linked) e h

  -- the first load of the link gave a row
  pub link_found : (seen : List Entry) (k n v c : ℕ) (d : Side) → ReaderOk s seen k (Standing n v d) → s.link n d ≡ c → c ≢ 0
      → ReaderOk s seen k (Linked n v d c)
  link_found seen k n v c d h e z = record {
    begins = h.begins;
    at_point = (h.at_point, link_to n c d e z (links_ok.links n d h.at_point.stamp.reached));
  }

-- the start of a way
pub way_starts : (s : State) (seen : List Entry) (k : ℕ) → Begins seen s.history → ReaderOk s seen k (Standing 0 0 Right)
way_starts s seen k b = record {
  begins = b;
  at_point = record { stamp = record { reached = inl refl; unmarked = refl; recorded = omega arith }; faces = inl (refl, refl); placed = λ e. inl refl };
}

-- the load of the child's stamp, without a mark
pub stamp_loaded : (s : State) (seen : List Entry) (k n v c w : ℕ) (d : Side) → ReaderOk s seen k (Linked n v d c) → s.stamp c ≡ w → IsUnmarked w
    → ReaderOk s seen k (Stamped n v d c w)
stamp_loaded s seen k n v c w d h e u = record {
  begins = h.begins;
  at_point = (h.at_point.0, record { linked = h.at_point.1; stamp = record { reached = inr h.at_point.1; unmarked = u; recorded = omega (arith, e) } }, λ m. absurd (unmarked_unlinked w u (rw e at m)));
}
