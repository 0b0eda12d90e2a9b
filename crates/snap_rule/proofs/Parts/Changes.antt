-- Changes in progress, after each kind of step.
use Rattle.std.proofs.Common.{◌≡◌, ◌≢◌, ℕ, ◌+◌, ◌<◌, ◌%◌, ◌⊎◌, inl, inr, refl, ap, sym, ◌∙◌, subst, ap₂, arith}
use native.Mathlib.Decide.{ℕ_discrete}
use mathlib.Core.Logic.{dite}
use Rattle.snap_model.specs.History.{call_value}
use Rattle.snap_model.specs.declared.call.Entry.{Entry}
use Rattle.snap_rule.specs.Tree.{Stands}
use Rattle.snap_stamp.specs.Sides.{other}
use Rattle.snap_stamp.specs.declared.side.Side.{Side}
use Rattle.snap_rule.specs.State.{State, Change, In, IsShared}
use Rattle.snap_stamp.specs.Stamps.{IsUnlinked, IsShrinking}
use Rattle.snap_rule.specs.State.Change.{plain, unlinking, lowering, raising}
use Rattle.snap_rule.specs.Rule.{TreeOk, LinksOk, ChangesOk, IsLive, LinkFits, IsParent}
use Rattle.snap_rule.specs.Updates.{changed, relink}
use Rattle.snap_rule.specs.TreeChanges.{renamed, grown, leaf_of}
use Rattle.snap_rule.specs.Kinds.Entries.{value_stored, leaf_linked, MayLinkLeaf}
use Rattle.snap_rule.specs.Kinds.Clones.{cut, MayCut, copy_linked, MayLinkCopy}
use Rattle.snap_rule.specs.Kinds.Unlinking.{unlinked_marked, MayMarkUnlinked, only_child, spliced, MaySplice}
use Rattle.snap_rule.specs.Kinds.Rotation.{shrinking_marked, MayMarkShrinking, lowered_linked, MayLinkLowered, raised_linked, MayLinkRaised, parent_linked, MayLinkParent, shrinking_cleared, MayClearShrinking}
use Rattle.snap_rule.specs.Kinds.Words.{height_stored}
use Rattle.snap_rule.proofs.Updates.{changed_same, changed_other, relink_other, same_place, relink_same, relink_away}
use Rattle.snap_rule.proofs.Trees.Ways.{thin}
use Rattle.snap_rule.proofs.Trees.Rows.{stands_with_value, with_value_stands, stands_with_height, with_height_stands, stands_renamed, renamed_stands, stands_without, without_stands, stands_rotated, rotated_stands, stands_grown, grown_stands}
use Rattle.snap_rule.proofs.Evolving.Telling.{unlink_thin}

-- a link that a step leaves, with its change
pub fits_kept : (s s' : State) (n : ℕ) (d : Side) (x : Change) → s'.link n d ≡ s.link n d → s'.links n d ≡ s.links n d
    → ((c : ℕ) → IsUnlinked (s.stamp c) → IsUnlinked (s'.stamp c))
    → ((c : ℕ) → x ≡ lowering c → IsShrinking (s.stamp n) → IsShrinking (s'.stamp n))
    → ((c : ℕ) → x ≡ raising c → IsLive s c → IsShrinking (s.stamp c) → IsLive s' c × IsShrinking (s'.stamp c))
    → LinkFits s n d x → LinkFits s' n d x
fits_kept s s' n d plain e f u l r h = e ∙ h ∙ sym f
fits_kept s s' n d (unlinking c) e f u l r h = (e ∙ h.0, h.1, u c h.2)
fits_kept s s' n d (lowering c) e f u l r h = (e ∙ h.0, l c refl h.1)
fits_kept s s' n d (raising c) e f u l r h = let q = r c refl h.1 h.2 in (e ∙ h.0, q.0, q.1)

-- a link in no change
fits_plain : (s' : State) (n : ℕ) (d : Side) → s'.pending n d ≡ plain → s'.link n d ≡ s'.links n d → LinkFits s' n d (s'.pending n d)
fits_plain s' n d e h = subst (LinkFits s' n d) (sym e) h

-- where the change at (n, d) is another
fits_set : (s' : State) (n r : ℕ) (d e : Side) (x : Change) → n ≡ r → d ≡ e → s'.pending r e ≡ x → LinkFits s' r e x → LinkFits s' n d (s'.pending n d)
fits_set s' n r d e x q z i h =
    let f : LinkFits s' r e (s'.pending r e) = subst (LinkFits s' r e) (sym i) h in
    let g : LinkFits s' n e (s'.pending n e) = subst (λ (y : ℕ). LinkFits s' y e (s'.pending y e)) (sym q) f in
    subst (λ (y : Side). LinkFits s' n y (s'.pending n y)) (sym z) g

fits_left : (s s' : State) (n : ℕ) (d : Side) → s'.pending n d ≡ s.pending n d → LinkFits s' n d (s.pending n d) → LinkFits s' n d (s'.pending n d)
fits_left s s' n d e h = subst (LinkFits s' n d) (sym e) h

row_back : (s s' : State) (n : ℕ) → (Stands n s'.tree → Stands n s.tree) → (n ≡ 0) ⊎ Stands n s'.tree → (n ≡ 0) ⊎ Stands n s.tree
row_back s s' n f (inl z) = inl z
row_back s s' n f (inr h) = inr (f h)

pub live_on : (s s' : State) (n : ℕ) → (IsLive s n → IsLive s' n) → (n ≡ 0) ⊎ IsLive s n → (n ≡ 0) ⊎ IsLive s' n
live_on s s' n f (inl z) = inl z
live_on s s' n f (inr h) = inr (f h)

-- only live rows are in a change
pub plain_unless : (s : State) → ChangesOk s → (n : ℕ) (d : Side) → ((n ≡ 0) ⊎ IsLive s n → ⊥) → s.pending n d ≡ plain
plain_unless s ok n d never = go (s.pending n d) refl
  where
    go : (x : Change) → s.pending n d ≡ x → s.pending n d ≡ plain
    go plain e = e
    go (unlinking c) e = absurd (never (ok.live n d (λ q. cc (q, e))))
    go (lowering c) e = absurd (never (ok.live n d (λ q. cc (q, e))))
    go (raising c) e = absurd (never (ok.live n d (λ q. cc (q, e))))

pub store_changes : (s : State) (row : ℕ) (e : Entry) → ChangesOk s → ChangesOk (value_stored s row e)
store_changes s row e ok =
    let live : (n : ℕ) → IsLive s n → IsLive (value_stored s row e) n = λ n l. record { stands = stands_with_value row (call_value e.call) s.tree n l.stands; own = λ y. l.own (record { is_row = y.is_row; older = y.older }) } in
    record {
      fits = λ n d h. fits_kept s (value_stored s row e) n d (s.pending n d) refl refl (λ c u. u) (λ c q u. u) (λ c q l u. (live c l, u)) (ok.fits n d (row_back s (value_stored s row e) n (with_value_stands row (call_value e.call) s.tree n) h));
      live = λ n d z. live_on s (value_stored s row e) n (live n) (ok.live n d z);
    }

pub height_changes : (s : State) (row x : ℕ) → ChangesOk s → ChangesOk (height_stored s row x)
height_changes s row x ok =
    let live : (n : ℕ) → IsLive s n → IsLive (height_stored s row x) n = λ n l. record { stands = stands_with_height row x s.tree n l.stands; own = λ y. l.own (record { is_row = y.is_row; older = y.older }) } in
    record {
      fits = λ n d h. fits_kept s (height_stored s row x) n d (s.pending n d) refl refl (λ c u. u) (λ c q u. u) (λ c q l u. (live c l, u)) (ok.fits n d (row_back s (height_stored s row x) n (with_height_stands row x s.tree n) h));
      live = λ n d z. live_on s (height_stored s row x) n (live n) (ok.live n d z);
    }

pub cut_changes : (s : State) → ChangesOk s → MayCut s → ChangesOk (cut s)
cut_changes s ok may = record {
  fits = λ n d h. fits_plain (cut s) n d (may.no_change n d) (subst (LinkFits s n d) (may.no_change n d) (ok.fits n d h));
  live = λ n d z. absurd (z (may.no_change n d));
}

-- a row whose stamp had no mark gets one: what changes say of marked rows stays
pub shrink_changes : (s : State) (row : ℕ) → ChangesOk s → MayMarkShrinking s row → ChangesOk (shrinking_marked s row)
shrink_changes s row ok may =
    let s' : State = shrinking_marked s row in
    let live : (n : ℕ) → IsLive s n → IsLive s' n = λ n l. record { stands = l.stands; own = λ y. l.own (record { is_row = y.is_row; older = y.older }) } in
    let away : (n : ℕ) → n ≢ row → changed s.stamp row (s.stamp row + 2) n ≡ s.stamp n = λ n z. changed_other s.stamp row (s.stamp row + 2) n z in
    let unlinked : (n : ℕ) → IsUnlinked (s.stamp n) → IsUnlinked (s'.stamp n) = λ n u. subst IsUnlinked (sym (away n (λ q. let f = may.unmarked in let g : IsUnlinked (s.stamp row) = subst (λ (y : ℕ). IsUnlinked (s.stamp y)) q u in omega arith))) u in
    let shrinking : (n : ℕ) → IsShrinking (s.stamp n) → IsShrinking (s'.stamp n) = λ n u. subst IsShrinking (sym (away n (λ q. let f = may.unmarked in let g : IsShrinking (s.stamp row) = subst (λ (y : ℕ). IsShrinking (s.stamp y)) q u in omega arith))) u in
    record {
      fits = λ n d h. fits_kept s s' n d (s.pending n d) refl refl unlinked (λ c q u. shrinking n u) (λ c q l u. (live c l, shrinking c u)) (ok.fits n d h);
      live = λ n d z. live_on s s' n (live n) (ok.live n d z);
    }

pub clear_changes : (s : State) (row : ℕ) → ChangesOk s → MayClearShrinking s row → ChangesOk (shrinking_cleared s row)
clear_changes s row ok may =
    let s' : State = shrinking_cleared s row in
    let live : (n : ℕ) → IsLive s n → IsLive s' n = λ n l. record { stands = l.stands; own = λ y. l.own (record { is_row = y.is_row; older = y.older }) } in
    let away : (n : ℕ) → n ≢ row → changed s.stamp row (s.stamp row + 2) n ≡ s.stamp n = λ n z. changed_other s.stamp row (s.stamp row + 2) n z in
    let unlinked : (n : ℕ) → IsUnlinked (s.stamp n) → IsUnlinked (s'.stamp n) = λ n u. subst IsUnlinked (sym (away n (λ q. let f = may.marked in let g : IsUnlinked (s.stamp row) = subst (λ (y : ℕ). IsUnlinked (s.stamp y)) q u in omega arith))) u in
    let lowered : (n : ℕ) (d : Side) (c : ℕ) → s.pending n d ≡ lowering c → n ≢ row = λ n d c e q. let f : s.pending n d ≡ plain = subst (λ (y : ℕ). s.pending y d ≡ plain) (sym q) (may.no_change d) in cc (e, f) in
    let raised : (n : ℕ) (d : Side) (c : ℕ) → s.pending n d ≡ raising c → c ≢ row = λ n d c e q. may.not_named n d (e ∙ ap raising q) in
    record {
      fits = λ n d h. fits_kept s s' n d (s.pending n d) refl refl unlinked (λ c q u. subst IsShrinking (sym (away n (lowered n d c q))) u) (λ c q l u. (live c l, subst IsShrinking (sym (away c (raised n d c q))) u)) (ok.fits n d h);
      live = λ n d z. live_on s s' n (live n) (ok.live n d z);
    }

-- a link that is changed with its change
module _ (s : State) (r : ℕ) (e : Side) (v : ℕ) (x : Change) (ok : ChangesOk s) where
  abbrev after_link : State
  after_link = record s { link = relink s.link r e v; pending = relink s.pending r e x }

  live_same : (n : ℕ) → IsLive s n → IsLive after_link n
  live_same n l = record { stands = l.stands; own = λ y. l.own (record { is_row = y.is_row; older = y.older }) }

  link_changes : LinkFits after_link r e x → (x ≢ plain → (r ≡ 0) ⊎ IsLive s r) → ChangesOk after_link
  link_changes f l = record {
    fits = λ n d h. elim (same_place n r d e) [
      | inl q ↦ fits_set after_link n r d e x q.0 q.1 (relink_same s.pending r e x) f
      | inr z ↦ fits_left s after_link n d (relink_away s.pending r e x n d z)
          (fits_kept s after_link n d (s.pending n d) (relink_away s.link r e v n d z) refl (λ c u. u) (λ c q u. u) (λ c q i u. (live_same c i, u)) (ok.fits n d h))
    ];
    live = λ n d y. live_on s after_link n (live_same n) (elim (same_place n r d e) [
      | inl q ↦ subst (λ (m : ℕ). (m ≡ 0) ⊎ IsLive s m) (sym q.0) (l (λ p. y (ap₂ (relink s.pending r e x) q.0 q.1 ∙ relink_same s.pending r e x ∙ p)))
      | inr z ↦ ok.live n d (λ p. y (relink_away s.pending r e x n d z ∙ p))
    ]);
  }

marked_shrinking : (w : ℕ) → w % 4 ≡ 2 → IsShrinking w
marked_shrinking w h = omega arith

pub splice_changes : (s : State) (parent : ℕ) (d : Side) (row : ℕ) → ChangesOk s → MaySplice s parent d row → ChangesOk (spliced s parent d)
splice_changes s parent d row ok may = link_changes s parent d (s.links parent d) plain ok (relink_same s.link parent d (s.links parent d)) (λ z. absurd (z refl))

pub lower_changes : (s : State) (row : ℕ) (d : Side) (raised : ℕ) → ChangesOk s → MayLinkLowered s row d raised
    → ChangesOk (lowered_linked s row d raised)
lower_changes s row d raised ok may = link_changes s row d (s.link raised (other d)) (lowering (s.link raised (other d))) ok (relink_same s.link row d (s.link raised (other d)), marked_shrinking (s.stamp row) may.marked) (λ z. inr may.live)

pub lift_changes : (s : State) (row : ℕ) (d : Side) (raised : ℕ) → ChangesOk s → MayLinkRaised s row d raised
    → ChangesOk (raised_linked s row d raised)
lift_changes s row d raised ok may = link_changes s raised (other d) row (raising row) ok
    (relink_same s.link raised (other d) row, live_same s raised (other d) row (raising row) ok row may.live, marked_shrinking (s.stamp row) may.marked)
    (λ z. inr may.raised_live)

-- a new row is linked in the place of another row, or of none
pub copy_changes : (s : State) (parent : ℕ) (d : Side) (row copy : ℕ) → TreeOk s → ChangesOk s → MayLinkCopy s parent d row copy
    → ChangesOk (copy_linked s parent d row copy)
copy_changes s parent d row copy tree_ok ok may =
    let s' : State = copy_linked s parent d row copy in
    let live : (n : ℕ) → IsLive s n → IsLive s' n = λ n l. record { stands = stands_renamed row copy s.tree n (λ q. l.own (subst (IsShared s) (sym q) may.shared)) l.stands; own = λ y. l.own (record { is_row = y.is_row; older = y.older }) } in
    let new : (n : ℕ) → (n ≡ 0) ⊎ IsLive s n → n ≢ copy = λ n h q. fresh_row s copy tree_ok may.is_row may.fresh (subst (λ (m : ℕ). (m ≡ 0) ⊎ IsLive s m) q h) in
    let copy_plain : (e : Side) → s.pending copy e ≡ plain = λ e. plain_unless s ok copy e (fresh_row s copy tree_ok may.is_row may.fresh) in
    record {
      fits = λ n e h. elim (same_place n parent e d) [
        | inl q ↦ fits_set s' n parent e d plain q.0 q.1 may.no_change (relink_same s.link parent d copy ∙ sym (relink_same (changed s.links copy (s.link copy)) parent d copy))
        | inr z ↦ dite (ℕ_discrete n copy)
            (λ q. fits_plain s' n e (subst (λ (m : ℕ). s.pending m e ≡ plain) (sym q) (copy_plain e))
            (relink_away s.link parent d copy n e z ∙ sym (relink_away (changed s.links copy (s.link copy)) parent d copy n e z ∙ ap (λ (f : Side → ℕ). f e) (subst (λ (m : ℕ). changed s.links copy (s.link copy) m ≡ s.link m) (sym q) (changed_same s.links copy (s.link copy))))))
            (λ q. fits_kept s s' n e (s.pending n e) (relink_away s.link parent d copy n e z)
            (relink_away (changed s.links copy (s.link copy)) parent d copy n e z ∙ ap (λ (f : Side → ℕ). f e) (changed_other s.links copy (s.link copy) n q))
            (λ c u. u) (λ c y u. u) (λ c y i u. (live c i, u)) (ok.fits n e (old_row n q h)))
      ];
      live = λ n e z. live_on s s' n (live n) (ok.live n e z);
    }
  where
    fresh_row : (s : State) (copy : ℕ) → TreeOk s → 0 < copy → (In copy s.linked → ⊥) → (copy ≡ 0) ⊎ IsLive s copy → ⊥
    fresh_row s copy tree_ok z f (inl e) = omega arith
    fresh_row s copy tree_ok z f (inr l) = f (tree_ok.rows copy l.stands).0

    old_row : (n : ℕ) → n ≢ copy → (n ≡ 0) ⊎ Stands n (renamed row copy s.tree) → (n ≡ 0) ⊎ Stands n s.tree
    old_row n q (inl z) = inl z
    old_row n q (inr h) = elim (renamed_stands row copy s.tree n h) [ inl e ↦ absurd (q e) | inr x ↦ inr x.1 ]

pub leaf_changes : (s : State) (parent : ℕ) (d : Side) (row : ℕ) (x : Entry) → TreeOk s → ChangesOk s → MayLinkLeaf s parent d row x
    → ChangesOk (leaf_linked s parent d row x)
leaf_changes s parent d row x tree_ok ok may =
    let s' : State = leaf_linked s parent d row x in
    let live : (n : ℕ) → IsLive s n → IsLive s' n = λ n l. record { stands = stands_grown parent d (leaf_of row x) s.tree n l.stands; own = λ y. l.own (record { is_row = y.is_row; older = y.older }) } in
    let row_plain : (e : Side) → s.pending row e ≡ plain = λ e. plain_unless s ok row e (fresh_row s row tree_ok may.is_row may.fresh) in
    record {
      fits = λ n e h. elim (same_place n parent e d) [
        | inl q ↦ fits_set s' n parent e d plain q.0 q.1 may.no_change (relink_same s.link parent d row ∙ sym (relink_same (changed s.links row (s.link row)) parent d row))
        | inr z ↦ dite (ℕ_discrete n row)
            (λ q. fits_plain s' n e (subst (λ (m : ℕ). s.pending m e ≡ plain) (sym q) (row_plain e))
            (relink_away s.link parent d row n e z ∙ sym (relink_away (changed s.links row (s.link row)) parent d row n e z ∙ ap (λ (f : Side → ℕ). f e) (subst (λ (m : ℕ). changed s.links row (s.link row) m ≡ s.link m) (sym q) (changed_same s.links row (s.link row))))))
            (λ q. fits_kept s s' n e (s.pending n e) (relink_away s.link parent d row n e z)
            (relink_away (changed s.links row (s.link row)) parent d row n e z ∙ ap (λ (f : Side → ℕ). f e) (changed_other s.links row (s.link row) n q))
            (λ c u. u) (λ c y u. u) (λ c y i u. (live c i, u)) (ok.fits n e (old_row n q h)))
      ];
      live = λ n e z. live_on s s' n (live n) (ok.live n e z);
    }
  where
    fresh_row : (s : State) (copy : ℕ) → TreeOk s → 0 < copy → (In copy s.linked → ⊥) → (copy ≡ 0) ⊎ IsLive s copy → ⊥
    fresh_row s copy tree_ok z f (inl e) = omega arith
    fresh_row s copy tree_ok z f (inr l) = f (tree_ok.rows copy l.stands).0

    old_row : (n : ℕ) → n ≢ row → (n ≡ 0) ⊎ Stands n (grown parent d (leaf_of row x) s.tree) → (n ≡ 0) ⊎ Stands n s.tree
    old_row n q (inl z) = inl z
    old_row n q (inr h) = elim (grown_stands parent d (leaf_of row x) s.tree n h) [ inl e ↦ absurd (q e) | inr y ↦ inr y ]

pub unlink_changes : (s : State) (parent : ℕ) (d : Side) (row : ℕ) → TreeOk s → LinksOk s → ChangesOk s → MayMarkUnlinked s parent d row
    → ChangesOk (unlinked_marked s parent d row)
unlink_changes s parent d row tree_ok links_ok ok may =
    let s' : State = unlinked_marked s parent d row in
    let lean = thin s s.links row s.tree tree_ok.reads (unlink_thin s parent d row ok may may.one_child) in
    let live : (n : ℕ) → n ≢ row → IsLive s n → IsLive s' n = λ n z l. record { stands = stands_without row s.tree n z lean l.stands; own = λ y. l.own (record { is_row = y.is_row; older = y.older }) } in
    let away : (n : ℕ) → n ≢ row → changed s.stamp row (s.stamp row + 1) n ≡ s.stamp n = λ n z. changed_other s.stamp row (s.stamp row + 1) n z in
    let unlinked_other : (n : ℕ) → IsUnlinked (s.stamp n) → n ≢ row = λ n u q. let f = may.unmarked in let g : IsUnlinked (s.stamp row) = subst (λ (y : ℕ). IsUnlinked (s.stamp y)) q u in omega arith in
    let shrinking_other : (n : ℕ) → IsShrinking (s.stamp n) → n ≢ row = λ n u q. let f = may.unmarked in let g : IsShrinking (s.stamp row) = subst (λ (y : ℕ). IsShrinking (s.stamp y)) q u in omega arith in
    let marked : IsUnlinked (s'.stamp row) = subst IsUnlinked (sym (changed_same s.stamp row (s.stamp row + 1))) (let f = may.unmarked in omega arith) in
    let not_zero : row ≢ 0 = λ q. links_ok.no_zero (subst (λ (y : ℕ). In y s.linked) q (tree_ok.rows row may.live.stands).0) in
    record {
      fits = λ n e h. elim (same_place n parent e d) [
        | inl q ↦ fits_set s' n parent e d (unlinking row) q.0 q.1 (relink_same s.pending parent d (unlinking row)) (may.child, not_zero, marked)
        | inr z ↦ fits_left s s' n e (relink_away s.pending parent d (unlinking row) n e z)
            (fits_kept s s' n e (s.pending n e) refl (relink_away s.links parent d (only_child s row) n e z)
            (λ c u. subst IsUnlinked (sym (away c (unlinked_other c u))) u) (λ c y u. subst IsShrinking (sym (away n (shrinking_other n u))) u)
            (λ c y i u. (live c (shrinking_other c u) i, subst IsShrinking (sym (away c (shrinking_other c u))) u)) (ok.fits n e (row_back s s' n (without_stands row s.tree n) h)))
      ];
      live = λ n e y. elim (same_place n parent e d) [
        | inl q ↦ subst (λ (m : ℕ). (m ≡ 0) ⊎ IsLive s' m) (sym q.0) (parent_on may.parent_live (live parent may.apart))
        | inr z ↦ let w : s.pending n e ≢ plain = λ p. y (relink_away s.pending parent d (unlinking row) n e z ∙ p) in live_on s s' n (live n (λ q. w (may.no_change n e (inr q)))) (ok.live n e w)
      ];
    }
  where
    parent_on : IsParent s parent d → (IsLive s parent → IsLive (unlinked_marked s parent d row) parent)
        → (parent ≡ 0) ⊎ IsLive (unlinked_marked s parent d row) parent
    parent_on (inl z) f = inl z.0
    parent_on (inr l) f = inr (f l)

pub raise_changes : (s : State) (parent : ℕ) (p : Side) (row : ℕ) (d : Side) (raised : ℕ) → ChangesOk s → MayLinkParent s parent p row d raised
    → ChangesOk (parent_linked s parent p row d raised)
raise_changes s parent p row d raised ok may =
    let s' : State = parent_linked s parent p row d raised in
    let one : ℕ → Side → ℕ = relink s.links row d (s.link row d) in
    let two : ℕ → Side → ℕ = relink one raised (other d) row in
    let first : ℕ → Side → Change = relink s.pending row d plain in
    let live : (n : ℕ) → IsLive s n → IsLive s' n = λ n l. record { stands = stands_rotated row d s.tree n l.stands; own = λ y. l.own (record { is_row = y.is_row; older = y.older }) } in
    let names_row : s.link raised (other d) ≡ row = (subst (LinkFits s raised (other d)) may.raising_is (ok.fits raised (other d) (inr may.raised_live.stands))).0 in
    record {
      fits = λ n e h. elim (same_place n parent e p) [
        | inl q ↦ fits_set s' n parent e p plain q.0 q.1
            (relink_other first raised (other d) plain parent p may.apart.2 ∙ relink_other s.pending row d plain parent p may.apart.1 ∙ may.no_change)
            (relink_same s.link parent p raised ∙ sym (relink_same two parent p raised))
        | inr z ↦ elim (same_place n raised e (other d)) [
          | inl q ↦ fits_set s' n raised e (other d) plain q.0 q.1 (relink_same first raised (other d) plain)
              (relink_other s.link parent p raised raised (other d) (λ y. may.apart.2 (sym y)) ∙ names_row ∙ sym (relink_other two parent p raised raised (other d) (λ y. may.apart.2 (sym y)) ∙ relink_same one raised (other d) row))
          | inr y ↦ elim (same_place n row e d) [
            | inl q ↦ fits_set s' n row e d plain q.0 q.1 (relink_other first raised (other d) plain row d (λ x. may.apart.0 (sym x)) ∙ relink_same s.pending row d plain)
                (relink_other s.link parent p raised row d (λ x. may.apart.1 (sym x))
                ∙ sym (relink_other two parent p raised row d (λ x. may.apart.1 (sym x)) ∙ relink_other one raised (other d) row row d (λ x. may.apart.0 (sym x)) ∙ relink_same s.links row d (s.link row d)))
            | inr x ↦ fits_left s s' n e (relink_away first raised (other d) plain n e y ∙ relink_away s.pending row d plain n e x)
                (fits_kept s s' n e (s.pending n e) (relink_away s.link parent p raised n e z)
                (relink_away two parent p raised n e z ∙ relink_away one raised (other d) row n e y ∙ relink_away s.links row d (s.link row d) n e x)
                (λ c u. u) (λ c q u. u) (λ c q i u. (live c i, u)) (ok.fits n e (row_back s s' n (rotated_stands row d s.tree n) h)))
          ]
        ]
      ];
      live = λ n e y. live_on s s' n (live n) (ok.live n e (λ q. y (still_plain n e q)));
    }
  where
    still_plain : (n : ℕ) (e : Side) → s.pending n e ≡ plain → relink (relink s.pending row d plain) raised (other d) plain n e ≡ plain
    still_plain n e q = elim (same_place n raised e (other d)) [
      | inl y ↦ ap₂ (relink (relink s.pending row d plain) raised (other d) plain) y.0 y.1 ∙ relink_same (relink s.pending row d plain) raised (other d) plain
      | inr y ↦ relink_away (relink s.pending row d plain) raised (other d) plain n e y ∙ elim (same_place n row e d) [
        | inl x ↦ ap₂ (relink s.pending row d plain) x.0 x.1 ∙ relink_same s.pending row d plain
        | inr x ↦ relink_away s.pending row d plain n e x ∙ q
      ]
    ]

-- the parent of a row that gets the unlinked mark stays live
pub parent_after_unlink : (s : State) (parent : ℕ) (d : Side) (row : ℕ) → TreeOk s → ChangesOk s → MayMarkUnlinked s parent d row
    → IsParent (unlinked_marked s parent d row) parent d
parent_after_unlink s parent d row tree_ok ok may = go may.parent_live
  where
    go : IsParent s parent d → IsParent (unlinked_marked s parent d row) parent d
    go (inl z) = inl z
    go (inr l) = inr (record { stands = stands_without row s.tree parent may.apart (thin s s.links row s.tree tree_ok.reads (unlink_thin s parent d row ok may may.one_child)) l.stands; own = λ y. l.own (record { is_row = y.is_row; older = y.older }) })
