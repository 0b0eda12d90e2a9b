-- Each kind of step leaves the rows alone that its pass doesn't hold.
use Rattle.std.proofs.Common.{◌≡◌, ◌≢◌, ℕ, ◌+◌, ◌<◌, inl, inr, refl, ap, sym, ◌∙◌, subst, ap₂, arith}
use Rattle.snap_model.specs.History.{call_value}
use Rattle.snap_model.specs.declared.call.Entry.{Entry}
use Rattle.snap_stamp.specs.Sides.{other}
use Rattle.snap_stamp.specs.declared.side.Side.{Side}
use Rattle.snap_rule.specs.State.{State, Change, In, WasLinked, IsShared}
use Rattle.snap_rule.specs.State.Change.{plain, unlinking, lowering, raising}
use Rattle.snap_rule.specs.Rule.{TreeOk, ChangesOk}
use Rattle.snap_rule.specs.Updates.{changed, relink}
use Rattle.snap_rule.specs.Kinds.Entries.{value_stored, leaf_linked, MayLinkLeaf, absent_confirmed}
use Rattle.snap_rule.specs.Kinds.Clones.{copy_linked, MayLinkCopy}
use Rattle.snap_rule.specs.Kinds.Unlinking.{unlinked_marked, MayMarkUnlinked, only_child, spliced}
use Rattle.snap_rule.specs.Kinds.Rotation.{shrinking_marked, lowered_linked, raised_linked, parent_linked, shrinking_cleared}
use Rattle.snap_rule.specs.Kinds.Words.{height_stored, own_stored, MayStoreOwn, lock_stored, header_stored}
use Rattle.snap_rule.specs.TreeChanges.{leaf_of}
use Rattle.snap_rule.specs.Doing.{Apart}
use Rattle.snap_rule.specs.Views.{LeavesOthers}
use Rattle.snap_rule.proofs.Updates.{changed_other, relink_other, same_place, relink_same, relink_away}
use Rattle.snap_rule.proofs.Trees.Rows.{stands_with_value, stands_with_height, stands_renamed, stands_without, stands_rotated, stands_grown}
use Rattle.snap_rule.proofs.Trees.Ways.{thin}
use Rattle.snap_rule.proofs.Evolving.Telling.{unlink_thin}
use Rattle.snap_rule.proofs.InChange.{live_same}

module _ (s : State) (n : ℕ) where
  -- the changes that name a row, where one link's change became another that doesn't name it
  names_less : (f : ℕ → Side → Change) (r : ℕ) (d : Side) (x : Change) → (x ≡ raising n → ⊥) → (m : ℕ) (e : Side) → relink f r d x m e ≡ raising n
      → f m e ≡ raising n
  names_less f r d x z m e q = elim (same_place m r e d) [
    | inl y ↦ absurd (z (sym (ap₂ (relink f r d x) y.0 y.1 ∙ relink_same f r d x) ∙ q))
    | inr y ↦ sym (relink_away f r d x m e y) ∙ q
  ]

  pub own_apart : (row k b h v : ℕ) (l : Side → ℕ) → n ≢ row → Apart s (own_stored s row k b h v l) n
  own_apart row k b h v l z = record {
    stamp = refl;
    link = λ d. ap (λ (f : Side → ℕ). f d) (changed_other s.link row l n z);
    links = λ d. refl;
    pending = λ d. refl;
    named = λ m e q. q;
    live = live_same s (own_stored s row k b h v l) n (λ i. i) (changed_other s.birth row b n z) refl;
  }

  pub lock_apart : (row x : ℕ) → Apart s (lock_stored s row x) n
  lock_apart row x = record {
    stamp = refl;
    link = λ d. refl;
    links = λ d. refl;
    pending = λ d. refl;
    named = λ m e q. q;
    live = live_same s (lock_stored s row x) n (λ i. i) refl refl;
  }

  pub header_apart : (g a w : ℕ) → Apart s (header_stored s g a w) n
  header_apart g a w = record {
    stamp = refl;
    link = λ d. refl;
    links = λ d. refl;
    pending = λ d. refl;
    named = λ m e q. q;
    live = live_same s (header_stored s g a w) n (λ i. i) refl refl;
  }

  pub store_apart : (row : ℕ) (e : Entry) → Apart s (value_stored s row e) n
  store_apart row e = record {
    stamp = refl;
    link = λ d. refl;
    links = λ d. refl;
    pending = λ d. refl;
    named = λ m x q. q;
    live = live_same s (value_stored s row e) n (stands_with_value row (call_value e.call) s.tree n) refl refl;
  }

  pub height_apart : (row x : ℕ) → Apart s (height_stored s row x) n
  height_apart row x = record {
    stamp = refl;
    link = λ d. refl;
    links = λ d. refl;
    pending = λ d. refl;
    named = λ m e q. q;
    live = live_same s (height_stored s row x) n (stands_with_height row x s.tree n) refl refl;
  }

  pub leaf_apart : (parent : ℕ) (d : Side) (row : ℕ) (e : Entry) → n ≢ parent → n ≢ row → Apart s (leaf_linked s parent d row e) n
  leaf_apart parent d row e z y = record {
    stamp = refl;
    link = λ x. relink_other s.link parent d row n x z;
    links = λ x. relink_other (changed s.links row (s.link row)) parent d row n x z ∙ ap (λ (f : Side → ℕ). f x) (changed_other s.links row (s.link row) n y);
    pending = λ x. refl;
    named = λ m x q. q;
    live = live_same s (leaf_linked s parent d row e) n (stands_grown parent d (leaf_of row e) s.tree n) refl refl;
  }

  pub copy_apart : (parent : ℕ) (d : Side) (row copy : ℕ) → MayLinkCopy s parent d row copy → n ≢ parent → n ≢ copy
      → Apart s (copy_linked s parent d row copy) n
  copy_apart parent d row copy may z y = record {
    stamp = refl;
    link = λ x. relink_other s.link parent d copy n x z;
    links = λ x. relink_other (changed s.links copy (s.link copy)) parent d copy n x z ∙ ap (λ (f : Side → ℕ). f x) (changed_other s.links copy (s.link copy) n y);
    pending = λ x. refl;
    named = λ m x q. q;
    live = λ l. live_same s (copy_linked s parent d row copy) n (stands_renamed row copy s.tree n (λ q. l.own (subst (IsShared s) (sym q) may.shared))) refl refl l;
  }

  pub unlink_apart : (parent : ℕ) (d : Side) (row : ℕ) → TreeOk s → ChangesOk s → MayMarkUnlinked s parent d row → n ≢ parent → n ≢ row
      → Apart s (unlinked_marked s parent d row) n
  unlink_apart parent d row tree_ok changes_ok may z y = record {
    stamp = changed_other s.stamp row (s.stamp row + 1) n y;
    link = λ x. refl;
    links = λ x. relink_other s.links parent d (only_child s row) n x z;
    pending = λ x. relink_other s.pending parent d (unlinking row) n x z;
    named = names_less s.pending parent d (unlinking row) (λ q. cc q);
    live = live_same s (unlinked_marked s parent d row) n (stands_without row s.tree n y (thin s s.links row s.tree tree_ok.reads (unlink_thin s parent d row changes_ok may may.one_child))) refl refl;
  }

  pub splice_apart : (parent : ℕ) (d : Side) → n ≢ parent → Apart s (spliced s parent d) n
  splice_apart parent d z = record {
    stamp = refl;
    link = λ x. relink_other s.link parent d (s.links parent d) n x z;
    links = λ x. refl;
    pending = λ x. relink_other s.pending parent d plain n x z;
    named = names_less s.pending parent d plain (λ q. cc q);
    live = live_same s (spliced s parent d) n (λ i. i) refl refl;
  }

  pub shrink_apart : (row : ℕ) → n ≢ row → Apart s (shrinking_marked s row) n
  shrink_apart row z = record {
    stamp = changed_other s.stamp row (s.stamp row + 2) n z;
    link = λ d. refl;
    links = λ d. refl;
    pending = λ d. refl;
    named = λ m e q. q;
    live = live_same s (shrinking_marked s row) n (λ i. i) refl refl;
  }

  pub clear_apart : (row : ℕ) → n ≢ row → Apart s (shrinking_cleared s row) n
  clear_apart row z = record {
    stamp = changed_other s.stamp row (s.stamp row + 2) n z;
    link = λ d. refl;
    links = λ d. refl;
    pending = λ d. refl;
    named = λ m e q. q;
    live = live_same s (shrinking_cleared s row) n (λ i. i) refl refl;
  }

  pub lower_apart : (row : ℕ) (d : Side) (raised : ℕ) → n ≢ row → Apart s (lowered_linked s row d raised) n
  lower_apart row d raised z =
      let v : ℕ = s.link raised (other d) in
      record {
        stamp = refl;
        link = λ x. relink_other s.link row d v n x z;
        links = λ x. refl;
        pending = λ x. relink_other s.pending row d (lowering v) n x z;
        named = names_less s.pending row d (lowering v) (λ q. cc q);
        live = live_same s (lowered_linked s row d raised) n (λ i. i) refl refl;
      }

  raising_is : (a b : ℕ) → raising a ≡ raising b → a ≡ b
  raising_is a b q = cc q

  pub lift_apart : (row : ℕ) (d : Side) (raised : ℕ) → n ≢ row → n ≢ raised → Apart s (raised_linked s row d raised) n
  lift_apart row d raised y z = record {
    stamp = refl;
    link = λ x. relink_other s.link raised (other d) row n x z;
    links = λ x. refl;
    pending = λ x. relink_other s.pending raised (other d) (raising row) n x z;
    named = names_less s.pending raised (other d) (raising row) (λ q. y (sym (raising_is row n q)));
    live = live_same s (raised_linked s row d raised) n (λ i. i) refl refl;
  }

  pub raise_apart : (parent : ℕ) (p : Side) (row : ℕ) (d : Side) (raised : ℕ) → n ≢ parent → n ≢ row → n ≢ raised
      → Apart s (parent_linked s parent p row d raised) n
  raise_apart parent p row d raised x y z =
      let one : ℕ → Side → ℕ = relink s.links row d (s.link row d) in
      let first : ℕ → Side → Change = relink s.pending row d plain in
      record {
        stamp = refl;
        link = λ e. relink_other s.link parent p raised n e x;
        links = λ e. relink_other (relink one raised (other d) row) parent p raised n e x ∙ relink_other one raised (other d) row n e z ∙ relink_other s.links row d (s.link row d) n e y;
        pending = λ e. relink_other first raised (other d) plain n e z ∙ relink_other s.pending row d plain n e y;
        named = λ m e q. names_less s.pending row d plain (λ w. cc w) m e (names_less first raised (other d) plain (λ w. cc w) m e q);
        live = live_same s (parent_linked s parent p row d raised) n (stands_rotated row d s.tree n) refl refl;
      }

-- a row that the pass holds is no row that another holds
module _ (s : State) (who : ℕ) where
  held_other : (row n : ℕ) → s.lock row ≡ who + 1 → s.lock n ≢ who + 1 → n ≢ row
  held_other row n h z q = z (ap s.lock q ∙ h)

  fresh_other : (row n : ℕ) → 0 < row → (In row s.linked → ⊥) → WasLinked s n → n ≢ row
  fresh_other row n p f (inl z) q = omega (arith, z, q)
  fresh_other row n p f (inr i) q = f (subst (λ (x : ℕ). In x s.linked) q i)

  pub own_leaves : (row k b h v : ℕ) (l : Side → ℕ) → MayStoreOwn s row → LeavesOthers s (own_stored s row k b h v l) who
  own_leaves row k b h v l may n i z y = (own_apart s n row k b h v l (fresh_other row n may.is_row may.fresh i), refl)

  pub take_leaves : (row x : ℕ) → s.lock row ≡ 0 → LeavesOthers s (lock_stored s row x) who
  take_leaves row x free n i z y = (lock_apart s n row x, changed_other s.lock row x n (λ q. z (ap s.lock q ∙ free)))

  pub free_leaves : (row : ℕ) → s.lock row ≡ who + 1 → LeavesOthers s (lock_stored s row 0) who
  free_leaves row held n i z y = (lock_apart s n row 0, changed_other s.lock row 0 n (held_other row n held y))

  pub header_leaves : (g a w : ℕ) → LeavesOthers s (header_stored s g a w) who
  header_leaves g a w n i z y = (header_apart s n g a w, refl)

  pub leaf_leaves : (parent : ℕ) (d : Side) (row : ℕ) (e : Entry) → MayLinkLeaf s parent d row e → s.lock parent ≡ who + 1
      → LeavesOthers s (leaf_linked s parent d row e) who
  leaf_leaves parent d row e may held n i z y = (leaf_apart s n parent d row e (held_other parent n held y) (fresh_other row n may.is_row may.fresh i), refl)

  pub store_leaves : (row : ℕ) (e : Entry) → LeavesOthers s (value_stored s row e) who
  store_leaves row e n i z y = (store_apart s n row e, refl)

  pub copy_leaves : (parent : ℕ) (d : Side) (row copy : ℕ) → MayLinkCopy s parent d row copy → s.lock parent ≡ who + 1
      → LeavesOthers s (copy_linked s parent d row copy) who
  copy_leaves parent d row copy may held n i z y = (copy_apart s n parent d row copy may (held_other parent n held y) (fresh_other copy n may.is_row may.fresh i), refl)

  pub unlink_leaves : TreeOk s → ChangesOk s → (parent : ℕ) (d : Side) (row : ℕ) → MayMarkUnlinked s parent d row → s.lock parent ≡ who + 1
      → s.lock row ≡ who + 1
      → LeavesOthers s (unlinked_marked s parent d row) who
  unlink_leaves tree_ok changes_ok parent d row may a b n i z y = (unlink_apart s n parent d row tree_ok changes_ok may (held_other parent n a y) (held_other row n b y), refl)

  pub splice_leaves : (parent : ℕ) (d : Side) → s.lock parent ≡ who + 1 → LeavesOthers s (spliced s parent d) who
  splice_leaves parent d a n i z y = (splice_apart s n parent d (held_other parent n a y), refl)

  pub shrink_leaves : (row : ℕ) → s.lock row ≡ who + 1 → LeavesOthers s (shrinking_marked s row) who
  shrink_leaves row a n i z y = (shrink_apart s n row (held_other row n a y), refl)

  pub lower_leaves : (row : ℕ) (d : Side) (raised : ℕ) → s.lock row ≡ who + 1 → LeavesOthers s (lowered_linked s row d raised) who
  lower_leaves row d raised a n i z y = (lower_apart s n row d raised (held_other row n a y), refl)

  pub lift_leaves : (row : ℕ) (d : Side) (raised : ℕ) → s.lock row ≡ who + 1 → s.lock raised ≡ who + 1
      → LeavesOthers s (raised_linked s row d raised) who
  lift_leaves row d raised a b n i z y = (lift_apart s n row d raised (held_other row n a y) (held_other raised n b y), refl)

  pub raise_leaves : (parent : ℕ) (p : Side) (row : ℕ) (d : Side) (raised : ℕ) → s.lock parent ≡ who + 1 → s.lock row ≡ who + 1
      → s.lock raised ≡ who + 1
      → LeavesOthers s (parent_linked s parent p row d raised) who
  raise_leaves parent p row d raised a b c n i z y = (raise_apart s n parent p row d raised (held_other parent n a y) (held_other row n b y) (held_other raised n c y), refl)

  pub clear_leaves : (row : ℕ) → s.lock row ≡ who + 1 → LeavesOthers s (shrinking_cleared s row) who
  clear_leaves row a n i z y = (clear_apart s n row (held_other row n a y), refl)

  pub height_leaves : (row x : ℕ) → LeavesOthers s (height_stored s row x) who
  height_leaves row x n i z y = (height_apart s n row x, refl)

  pub absent_leaves : (e : Entry) → LeavesOthers s (absent_confirmed s e) who
  absent_leaves e n i z y = (record { stamp = refl; link = λ d. refl; links = λ d. refl; pending = λ d. refl; named = λ m x q. q; live = live_same s (absent_confirmed s e) n (λ h. h) refl refl }, refl)
