-- Which rows stand in the tree, after each kind of step.
use Rattle.std.proofs.Common.{◌≡◌, ◌≢◌, ℕ, ◌+◌, ◌⊎◌, inl, inr, eqb, eq-eqb, ne_eqb, true, false, refl, ap, sym, ◌∙◌, subst, ap₂, arith}
use native.Mathlib.Decide.{ℕ_discrete}
use mathlib.Core.Logic.{dite}
use Rattle.snap_model.specs.History.{call_value}
use Rattle.snap_model.specs.declared.call.Entry.{Entry}
use Rattle.snap_rule.specs.Tree.{Node, Tree, root, Stands}
use Rattle.snap_stamp.specs.declared.side.Side.{Side}
use Rattle.snap_stamp.specs.declared.side.Side.TheVariants.{Left, Right}
use Rattle.snap_rule.specs.Tree.Tree.{empty, node}
use Rattle.snap_rule.specs.State.{State, In, IsShared, Represents}
use Rattle.snap_stamp.specs.Stamps.{IsUnlinked}
use Rattle.snap_rule.specs.Rule.{TreeOk, LinksOk, ChangesOk, PresentOk, IsLive, LinkFits, IsParent}
use Rattle.snap_rule.specs.Updates.{changed}
use Rattle.snap_rule.specs.TreeChanges.{renamed, first_on, grown_below, grown, leaf_of}
use Rattle.snap_rule.specs.Kinds.Entries.{value_stored, leaf_linked, MayLinkLeaf}
use Rattle.snap_rule.specs.Kinds.Clones.{cut, copy_linked, MayLinkCopy}
use Rattle.snap_rule.specs.Kinds.Unlinking.{unlinked_marked, MayMarkUnlinked, spliced}
use Rattle.snap_rule.specs.Kinds.Rotation.{shrinking_marked, lowered_linked, raised_linked, parent_linked, shrinking_cleared}
use Rattle.snap_rule.specs.Kinds.Words.{height_stored}
use Rattle.snap_rule.proofs.Updates.{changed_same, changed_other}
use Rattle.snap_rule.proofs.Trees.{child, reads_child, root_empty}
use Rattle.snap_rule.proofs.Trees.Rows.{stands_with_value, with_value_stands, stands_with_height, with_height_stands, stands_renamed, renamed_stands, stands_without, without_stands, stands_rotated, rotated_stands, stands_grown, grown_stands}
use Rattle.snap_rule.proofs.Trees.Ways.{thin}
use Rattle.snap_rule.proofs.Evolving.Telling.{unlink_thin}
use Rattle.snap_rule.proofs.Parts.Tree.{row_stands}

-- the new row stands in the tree
new_stands : (r q : ℕ) (t : Tree) → Stands r t → Stands q (renamed r q t)
new_stands r q empty h = h
new_stands r q (node m a b) (inl e) = let g : eqb m.row r ≡ true = eq-eqb m.row r (sym e) in inl (rw g)
new_stands r q (node m a b) (inr (inl h)) = inr (inl (new_stands r q a h))
new_stands r q (node m a b) (inr (inr h)) = inr (inr (new_stands r q b h))

leaf_first : (d : Side) (m : Node) (a b : Tree) (l : Node) → child d a b ≡ empty → Stands l.row (first_on d m a b l)
leaf_first Left m empty b l e = inr (inl (inl refl))
leaf_first Left m (node p x y) b l e = cc
leaf_first Right m a empty l e = inr (inr (inl refl))
leaf_first Right m a (node p x y) l e = cc

module _ (s : State) (links : ℕ → Side → ℕ) (r : ℕ) (d : Side) (l : Node) (none : links r d ≡ 0) where
  leaf_below : (t : Tree) → Represents s links t → Stands r t → Stands l.row (grown_below r d l t)
  leaf_below empty v h = absurd h
  leaf_below (node m a b) v h = dite (ℕ_discrete m.row r)
      (λ e. let g : eqb m.row r ≡ true = eq-eqb m.row r e in let c = reads_child s links d m a b v in
      rw g (leaf_first d m a b l (root_empty s links (child d a b) c.1 (sym c.0 ∙ ap (λ (x : ℕ). links x d) e ∙ none))))
      (λ e. let g : eqb m.row r ≡ false = ne_eqb m.row r e in rw g (below h e (leaf_below a v.3) (leaf_below b v.4)))
    where
      below : Stands r (node m a b) → m.row ≢ r → (Stands r a → Stands l.row (grown_below r d l a))
          → (Stands r b → Stands l.row (grown_below r d l b))
          → Stands l.row (node m (grown_below r d l a) (grown_below r d l b))
      below (inl q) e f g = absurd (e (sym q))
      below (inr (inl i)) e f g = inr (inl (f i))
      below (inr (inr i)) e f g = inr (inr (g i))

  leaf_stands : (t : Tree) → Represents s links t → (root t ≡ 0) ⊎ Stands r t → Stands l.row (grown r d l t)
  leaf_stands empty v h = inl refl
  leaf_stands (node m a b) v (inl z) = absurd (omega (arith, v.0.is_row, z))
  leaf_stands (node m a b) v (inr h) = leaf_below (node m a b) v h

-- two more keep the unlinked mark
still_unlinked : (s : State) (row n : ℕ) → IsUnlinked (s.stamp n) → IsUnlinked (changed s.stamp row (s.stamp row + 2) n)
still_unlinked s row n u = dite (ℕ_discrete n row)
    (λ q. subst (λ (x : ℕ). IsUnlinked (changed s.stamp row (s.stamp row + 2) x)) (sym q) (subst IsUnlinked (sym (changed_same s.stamp row (s.stamp row + 2))) (more (s.stamp row) (subst (λ (x : ℕ). IsUnlinked (s.stamp x)) q u))))
    (λ q. subst IsUnlinked (sym (changed_other s.stamp row (s.stamp row + 2) n q)) u)
  where
    more : (w : ℕ) → IsUnlinked w → IsUnlinked (w + 2)
    more w h = omega arith

module _ (s : State) (ok : PresentOk s) where
  pub store_present : (row : ℕ) (e : Entry) → PresentOk (value_stored s row e)
  store_present row e = record {
    stands = λ n h u r. stands_with_value row (call_value e.call) s.tree n (ok.stands n h u r);
    replaced = λ n h. let r = ok.replaced n h in (r.0, record { is_row = r.1.is_row; older = r.1.older });
    gone = λ n h i. ok.gone n h (with_value_stands row (call_value e.call) s.tree n i);
  }

  pub height_present : (row x : ℕ) → PresentOk (height_stored s row x)
  height_present row x = record {
    stands = λ n h u r. stands_with_height row x s.tree n (ok.stands n h u r);
    replaced = λ n h. let r = ok.replaced n h in (r.0, record { is_row = r.1.is_row; older = r.1.older });
    gone = λ n h i. ok.gone n h (with_height_stands row x s.tree n i);
  }

  pub cut_present : PresentOk (cut s)
  cut_present = record {
    stands = ok.stands;
    replaced = λ n h. let r = ok.replaced n h in (r.0, record { is_row = r.1.is_row; older = let o = r.1.older in omega arith });
    gone = ok.gone;
  }

  pub splice_present : (parent : ℕ) (d : Side) → PresentOk (spliced s parent d)
  splice_present parent d = record {
    stands = ok.stands;
    replaced = λ n h. let r = ok.replaced n h in (r.0, record { is_row = r.1.is_row; older = r.1.older });
    gone = ok.gone;
  }

  pub lower_present : (row : ℕ) (d : Side) (raised : ℕ) → PresentOk (lowered_linked s row d raised)
  lower_present row d raised = record {
    stands = ok.stands;
    replaced = λ n h. let r = ok.replaced n h in (r.0, record { is_row = r.1.is_row; older = r.1.older });
    gone = ok.gone;
  }

  pub lift_present : (row : ℕ) (d : Side) (raised : ℕ) → PresentOk (raised_linked s row d raised)
  lift_present row d raised = record {
    stands = ok.stands;
    replaced = λ n h. let r = ok.replaced n h in (r.0, record { is_row = r.1.is_row; older = r.1.older });
    gone = ok.gone;
  }

  pub raise_present : (parent : ℕ) (p : Side) (row : ℕ) (d : Side) (raised : ℕ) → PresentOk (parent_linked s parent p row d raised)
  raise_present parent p row d raised = record {
    stands = λ n h u r. stands_rotated row d s.tree n (ok.stands n h u r);
    replaced = λ n h. let r = ok.replaced n h in (r.0, record { is_row = r.1.is_row; older = r.1.older });
    gone = λ n h i. ok.gone n h (rotated_stands row d s.tree n i);
  }

  pub shrink_present : (row : ℕ) → PresentOk (shrinking_marked s row)
  shrink_present row = record {
    stands = λ n h u r. ok.stands n h (λ m. u (still_unlinked s row n m)) r;
    replaced = λ n h. let r = ok.replaced n h in (r.0, record { is_row = r.1.is_row; older = r.1.older });
    gone = ok.gone;
  }

  pub clear_present : (row : ℕ) → PresentOk (shrinking_cleared s row)
  clear_present row = record {
    stands = λ n h u r. ok.stands n h (λ m. u (still_unlinked s row n m)) r;
    replaced = λ n h. let r = ok.replaced n h in (r.0, record { is_row = r.1.is_row; older = r.1.older });
    gone = ok.gone;
  }

  pub unlink_present : (parent : ℕ) (d : Side) (row : ℕ) → TreeOk s → ChangesOk s → MayMarkUnlinked s parent d row
      → PresentOk (unlinked_marked s parent d row)
  unlink_present parent d row tree_ok changes_ok may =
      let lean = thin s s.links row s.tree tree_ok.reads (unlink_thin s parent d row changes_ok may may.one_child) in
      let marked : IsUnlinked (changed s.stamp row (s.stamp row + 1) row) = subst IsUnlinked (sym (changed_same s.stamp row (s.stamp row + 1))) (let f = may.unmarked in omega arith) in
      record {
        stands = λ n h u r. let z : n ≢ row = λ q. u (subst (λ (x : ℕ). IsUnlinked (changed s.stamp row (s.stamp row + 1) x)) (sym q) marked) in
            stands_without row s.tree n z lean (ok.stands n h (λ m. u (subst IsUnlinked (sym (changed_other s.stamp row (s.stamp row + 1) n z)) m)) r);
        replaced = λ n h. let r = ok.replaced n h in (r.0, record { is_row = r.1.is_row; older = r.1.older });
        gone = λ n h i. ok.gone n h (without_stands row s.tree n i);
      }

  pub copy_present : (parent : ℕ) (d : Side) (row copy : ℕ) → TreeOk s → LinksOk s → ChangesOk s → MayLinkCopy s parent d row copy
      → PresentOk (copy_linked s parent d row copy)
  copy_present parent d row copy tree_ok links_ok changes_ok may =
      let z : row ≢ 0 = (let p = may.shared.is_row in λ q. omega arith) in
      let child : s.links parent d ≡ row = sym (subst (LinkFits s parent d) may.no_change (changes_ok.fits parent d (place may.parent_live))) ∙ may.child in
      let there : Stands row s.tree = row_stands s tree_ok links_ok parent d row may.parent_live child z in
      record {
        stands = λ n h u r. elim h [
          | inl q ↦ subst (λ (x : ℕ). Stands x (renamed row copy s.tree)) (sym q) (new_stands row copy s.tree there)
          | inr i ↦ stands_renamed row copy s.tree n (λ q. r (inl q)) (ok.stands n i u (λ j. r (inr j)))
        ];
        replaced = λ n h. elim h [
          | inl q ↦ (inr (subst (λ (x : ℕ). In x s.linked) (sym q) (tree_ok.rows row there).0), subst (IsShared (copy_linked s parent d row copy)) (sym q) (record { is_row = may.shared.is_row; older = may.shared.older }))
          | inr i ↦ (let r = ok.replaced n i in (inr r.0, record { is_row = r.1.is_row; older = r.1.older }))
        ];
        gone = λ n h i. elim (renamed_stands row copy s.tree n i) [
          | inl q ↦ may.fresh (subst (λ (x : ℕ). In x s.linked) q (elim h [ inl e ↦ subst (λ (x : ℕ). In x s.linked) (sym e) (tree_ok.rows row there).0 | inr j ↦ (ok.replaced n j).0 ]))
          | inr m ↦ elim h [ inl e ↦ m.0 e | inr j ↦ ok.gone n j m.1 ]
        ];
      }
    where
      place : IsParent s parent d → (parent ≡ 0) ⊎ Stands parent s.tree
      place (inl q) = inl q.0
      place (inr l) = inr l.stands

  pub leaf_present : (parent : ℕ) (d : Side) (row : ℕ) (x : Entry) → TreeOk s → ChangesOk s → MayLinkLeaf s parent d row x
      → PresentOk (leaf_linked s parent d row x)
  leaf_present parent d row x tree_ok changes_ok may =
      let none : s.links parent d ≡ 0 = sym (subst (LinkFits s parent d) may.no_change (changes_ok.fits parent d (place may.parent_live))) ∙ may.no_child in
      record {
        stands = λ n h u r. elim h [
          | inl q ↦ subst (λ (y : ℕ). Stands y (grown parent d (leaf_of row x) s.tree)) (sym q) (leaf_stands s s.links parent d (leaf_of row x) none s.tree tree_ok.reads (top none may.parent_live))
          | inr i ↦ stands_grown parent d (leaf_of row x) s.tree n (ok.stands n i u r)
        ];
        replaced = λ n h. let r = ok.replaced n h in (inr r.0, record { is_row = r.1.is_row; older = r.1.older });
        gone = λ n h i. elim (grown_stands parent d (leaf_of row x) s.tree n i) [ inl q ↦ may.fresh (subst (λ (y : ℕ). In y s.linked) q (ok.replaced n h).0) | inr j ↦ ok.gone n h j ];
      }
    where
      place : IsParent s parent d → (parent ≡ 0) ⊎ Stands parent s.tree
      place (inl q) = inl q.0
      place (inr l) = inr l.stands

      top : s.links parent d ≡ 0 → IsParent s parent d → (root s.tree ≡ 0) ⊎ Stands parent s.tree
      top h (inl q) = inl (sym tree_ok.root ∙ sym (ap₂ s.links q.0 q.1) ∙ h)
      top h (inr l) = inr l.stands

-- a row that was linked, with the birth of now and without the unlinked mark, is live
pub live_known : (s : State) → PresentOk s → (n : ℕ) → In n s.linked → s.birth n ≡ s.epoch → ¬ IsUnlinked (s.stamp n) → IsLive s n
live_known s ok n h b u = record {
  stands = ok.stands n h u (λ r. let o = (ok.replaced n r).1.older in omega (arith, b));
  own = λ o. let q = o.older in omega (arith, b);
}

-- a shared child that a copy replaces was not replaced before
pub copy_once : (s : State) → PresentOk s → TreeOk s → LinksOk s → ChangesOk s → (parent : ℕ) (d : Side) (row copy : ℕ) → MayLinkCopy s parent d row copy → ¬ In row s.replaced
copy_once s ok tree_ok links_ok changes_ok parent d row copy may r = ok.gone row r (row_stands s tree_ok links_ok parent d row may.parent_live child (let p = may.shared.is_row in λ q. omega arith))
  where
    place : IsParent s parent d → (parent ≡ 0) ⊎ Stands parent s.tree
    place (inl q) = inl q.0
    place (inr l) = inr l.stands

    child : s.links parent d ≡ row
    child = sym (subst (LinkFits s parent d) may.no_change (changes_ok.fits parent d (place may.parent_live))) ∙ may.child
