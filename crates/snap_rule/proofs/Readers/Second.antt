-- The second load of a link gave the same row: that row is where the search goes on.
use Rattle.std.proofs.Common.{◌≡◌, ℕ, ◌≢◌, ◌⊎◌, inl, inr, List, None, refl, ap, sym, ◌∙◌, subst, arith}
use native.Mathlib.Decide.{dec_lt}
use mathlib.Core.Logic.{dite}
use Rattle.snap_model.specs.History.{Begins, told}
use Rattle.snap_model.specs.declared.call.Entry.{Entry}
use Rattle.snap_rule.specs.Tree.{Tree, root, find, Stands, OnWay, value_word, EachRow}
use Rattle.snap_stamp.specs.declared.side.Side.{Side}
use Rattle.snap_stamp.specs.declared.side.Side.TheVariants.{Left, Right}
use Rattle.snap_rule.specs.Tree.Tree.{empty, node}
use Rattle.snap_rule.specs.State.{State, Change, In, IsShared, Represents}
use Rattle.snap_stamp.specs.Stamps.{IsUnmarked, IsUnlinked, IsShrinking}
use Rattle.snap_rule.specs.State.Change.{plain, unlinking, lowering, raising}
use Rattle.snap_rule.specs.Position.{OnImage, IsPlaced, IsStanding}
use Rattle.snap_rule.specs.ChildCheck.{HasTold, IsGone, IsCandidate}
use Rattle.snap_rule.specs.Reader.{ReaderOk}
use Rattle.snap_rule.specs.declared.reader.Point.TheVariants.{Stamped, Relinked}
use Rattle.snap_rule.specs.Rule.{TreeOk, LinksOk, SharingOk, ChangesOk, IsLive, LinkFits}
use Rattle.snap_rule.proofs.Moments.{now, at_moment}
use Rattle.snap_rule.proofs.Trees.{way_root, each_root}
use Rattle.snap_rule.proofs.Readers.Loads.{own_told, TreeBelow, ImageBelow, top_value, unmarked_unlinked, unmarked_shrinking, linked_row, tree_row, tree_below, image_below, in_tree, stands_there}

-- a shared row is in no change
pub no_change : (s : State) → ChangesOk s → (n : ℕ) (d : Side) → IsShared s n → s.pending n d ≡ plain
no_change s changes_ok n d u = go (s.pending n d) refl
  where
    not_live : (n ≡ 0) ⊎ IsLive s n → ⊥
    not_live (inl z) = omega (arith, u.is_row, z)
    not_live (inr l) = l.own u

    go : (x : Change) → s.pending n d ≡ x → s.pending n d ≡ plain
    go plain e = e
    go (unlinking c) e = absurd (not_live (changes_ok.live n d (λ q. cc (q, e))))
    go (lowering c) e = absurd (not_live (changes_ok.live n d (λ q. cc (q, e))))
    go (raising c) e = absurd (not_live (changes_ok.live n d (λ q. cc (q, e))))

-- the word of a shared row's link is as the tree has it
pub plain_word : (s : State) → ChangesOk s → (n : ℕ) (d : Side) → Stands n s.tree → IsShared s n → s.link n d ≡ s.links n d
plain_word s changes_ok n d h u = subst (LinkFits s n d) (no_change s changes_ok n d u) (changes_ok.fits n d (inr h))

module _ (s : State) (tree_ok : TreeOk s) (links_ok : LinksOk s) (sharing_ok : SharingOk s) (changes_ok : ChangesOk s) where
  below_shared : (n : ℕ) (d : Side) (t : Tree) → Stands n s.tree → IsShared s n → s.links n d ≡ root t → root t ≢ 0 → IsShared s (root t)
  below_shared n d t h u e z = let q = plain_word s changes_ok n d h u ∙ e in subst (IsShared s) q (sharing_ok.links n d h u (λ x. z (sym q ∙ x)))

  -- the part of the tree at a shared row is its image
  pub shared_part : (t : Tree) → Represents s s.links t → ((n : ℕ) → Stands n t → Stands n s.tree) → (root t ≢ 0 → IsShared s (root t))
      → Represents s s.link t × EachRow (λ r. In r s.linked × IsShared s r) t
  shared_part empty r f u = (tt, tt)
  shared_part (node m a b) r f u =
      let h : Stands m.row s.tree = f m.row (inl refl) in
      let v : IsShared s m.row = u (tree_row s tree_ok links_ok changes_ok m.row h) in
      let x = shared_part a r.3 (λ n q. f n (inr (inl q))) (below_shared m.row Left a h v r.1) in
      let y = shared_part b r.4 (λ n q. f n (inr (inr q))) (below_shared m.row Right b h v r.2) in
      ((r.0, plain_word s changes_ok m.row Left h v ∙ r.1, plain_word s changes_ok m.row Right h v ∙ r.2, x.0, y.0), (((tree_ok.rows m.row h).0, v), x.1, y.1))

  -- a row to which a search in the tree goes on
  tree_placed : (seen : List Entry) (k c : ℕ) → Begins seen s.history → c ≢ 0 → TreeBelow s k c → IsPlaced s seen c k
  tree_placed seen k c b z t = dite (dec_lt (s.birth c) s.epoch)
      (λ o. let u : IsShared s c = record { is_row = omega arith; older = o } in
      let p = shared_part t.part t.reads t.stands (λ x. subst (IsShared s) (sym t.top) u) in
      inr (inr (record { shared = u; image = t.part; is_image = record { top = t.top; reads = p.0; rows = p.1 }; tells = now seen s.history (λ p. find t.part k ≡ told p k) b t.finds })))
      (λ o. inr (inl ((λ u. o u.older), subst (OnWay s.tree k) t.top (t.way (root t.part) (way_root t.part k (λ x. z (sym t.top ∙ x)))))))

  tree_told : (seen : List Entry) (k c : ℕ) → Begins seen s.history → c ≢ 0 → TreeBelow s k c → s.key c ≡ k → HasTold s seen c k
  tree_told seen k c b z t e = now seen s.history (λ p. s.value c ≡ value_word (told p k)) b (top_value s s.links t.part k c t.reads t.top z e ∙ ap value_word t.finds)

  in_change : (seen : List Entry) (k n v c w : ℕ) (d : Side) (x : Change) → Begins seen s.history → IsStanding s seen k n v d → s.stamp n ≡ v
      → s.link n d ≡ c → c ≢ 0 → IsUnmarked w → (IsUnlinked (s.stamp c) → IsGone s seen c) → (n ≡ 0) ⊎ OnWay s.tree k n → LinkFits s n d x
      → IsCandidate s seen k c w
  in_change seen k n v c w d plain b h e q z u f p g =
      let t : TreeBelow s k c = subst (TreeBelow s k) (sym g ∙ q) (tree_below s tree_ok links_ok changes_ok k n d h.faces p) in
      record { placed = λ x. tree_placed seen k c b z t; tells = λ x. tree_told seen k c b z t x }
  in_change seen k n v c w d (unlinking r) b h e q z u f p g =
      let m : IsUnlinked (s.stamp c) = subst (λ (x : ℕ). IsUnlinked (s.stamp x)) (sym g.0 ∙ q) g.2 in
      record {
        placed = λ x. absurd (unmarked_unlinked w u (rw x at m));
        tells = λ x. let l = f m in at_moment seen s.history (λ p. told p (s.key c) ≡ None) (λ p. s.value c ≡ value_word (told p k)) (λ p y. l.no_value ∙ sym (ap value_word (sym (ap (told p) x) ∙ y))) l.absent;
      }
  in_change seen k n v c w d (lowering r) b h e q z u f p g = absurd (unmarked_shrinking v h.stamp.unmarked (rw e at g.1))
  in_change seen k n v c w d (raising r) b h e q z u f p g =
      let same : r ≡ c = sym g.0 ∙ q in
      let m : IsShrinking (s.stamp c) = subst (λ (x : ℕ). IsShrinking (s.stamp x)) same g.2 in
      record {
        placed = λ x. absurd (unmarked_shrinking w u (rw x at m));
        tells = λ x. now seen s.history (λ p. s.value c ≡ value_word (told p k)) b (own_told s tree_ok c (subst (λ (y : ℕ). Stands y s.tree) same g.1.stands) ∙ ap (λ (y : ℕ). value_word (told s.history y)) x);
      }

  in_image : (seen : List Entry) (k n c w : ℕ) (d : Side) → s.link n d ≡ c → c ≢ 0 → ImageBelow s seen k (s.link n d) → IsCandidate s seen k c w
  in_image seen k n c w d q z i =
      let j = subst (ImageBelow s seen k) q i in
      record {
        placed = λ x. inr (inr (record { shared = (subst (λ (m : ℕ). In m s.linked × IsShared s m) j.image.top (each_root (λ r. In r s.linked × IsShared s r) j.part (λ y. z (sym j.image.top ∙ y)) j.image.rows)).1; image = j.part; is_image = j.image; tells = j.tells }));
        tells = λ x. at_moment seen s.history (λ p. find j.part k ≡ told p k) (λ p. s.value c ≡ value_word (told p k)) (λ p y. top_value s s.link j.part k c j.image.reads j.image.top z x ∙ ap value_word y) j.tells;
      }

  candidate : (seen : List Entry) (k n v c w : ℕ) (d : Side) → Begins seen s.history → IsStanding s seen k n v d → s.stamp n ≡ v → s.link n d ≡ c
      → c ≢ 0 → IsUnmarked w → (IsUnlinked (s.stamp c) → IsGone s seen c) → ((n ≡ 0) ⊎ OnWay s.tree k n) ⊎ OnImage s seen n k
      → IsCandidate s seen k c w
  candidate seen k n v c w d b h e q z u f (inl p) = in_change seen k n v c w d (s.pending n d) b h e q z u f p (changes_ok.fits n d (stands_there s tree_ok links_ok changes_ok k n p))
  candidate seen k n v c w d b h e q z u f (inr o) = in_image seen k n c w d q z (image_below s tree_ok links_ok changes_ok seen k n d h.faces o)

  -- the second load of the link gave the same row
  pub link_again : (seen : List Entry) (k n v c w : ℕ) (d : Side) → ReaderOk s seen k (Stamped n v d c w) → s.link n d ≡ c
      → ReaderOk s seen k (Relinked n v c w)
  link_again seen k n v c w d h q =
      let a = h.at_point in
      record {
        begins = h.begins;
        at_point = (a.0.stamp, a.1, λ e. candidate seen k n v c w d h.begins a.0 e q (linked_row s tree_ok links_ok changes_ok c a.1.linked) a.1.stamp.unmarked a.2 (in_tree s tree_ok links_ok changes_ok seen k n (a.0.placed e)));
      }
