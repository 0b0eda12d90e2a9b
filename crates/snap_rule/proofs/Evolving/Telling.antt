-- The telling kinds of step evolve the table.
use Rattle.std.proofs.Common.{◌≡◌, ◌≢◌, ℕ, ◌+◌, ◌<◌, ◌≤◌, ◌^◌, ◌⊎◌, inl, inr, [], ◌∷◌, ◌++◌, Option, Some, None, refl, ap, sym, ◌∙◌, subst, arith}
use native.Mathlib.Decide.{ℕ_discrete}
use mathlib.Core.Logic.{dite}
use Rattle.snap_model.specs.History.{told, call_value}
use Rattle.snap_model.specs.declared.call.Entry.{Entry}
use Rattle.snap_rule.specs.Tree.{Tree, find, Stands, OnWay, value_word}
use Rattle.snap_stamp.specs.declared.side.Side.{Side}
use Rattle.snap_stamp.specs.declared.side.Side.TheVariants.{Left, Right}
use Rattle.snap_rule.specs.Tree.Tree.{node}
use Rattle.snap_rule.specs.State.{State, In, IsShared, IsImage}
use Rattle.snap_stamp.specs.Stamps.{IsUnmarked, IsUnlinked}
use Rattle.snap_rule.specs.Evolves.{Evolves, SameRow}
use Rattle.snap_rule.specs.Position.{OnImage}
use Rattle.snap_rule.specs.Rule.{TreeOk, LinksOk, ChangesOk, LinkFits, IsParent}
use Rattle.snap_rule.specs.Updates.{changed}
use Rattle.snap_rule.specs.Kinds.Entries.{value_stored, MayStoreValue}
use Rattle.snap_rule.specs.Kinds.Clones.{cut, MayCut, copy_linked, MayLinkCopy}
use Rattle.snap_rule.specs.Kinds.Unlinking.{unlinked_marked, MayMarkUnlinked}
use Rattle.snap_rule.specs.Kinds.Rotation.{shrinking_marked, MayMarkShrinking, parent_linked, MayLinkParent}
use Rattle.snap_rule.proofs.Moments.{begins_refl, now}
use Rattle.snap_rule.proofs.Trees.{way_stands, each_stands, reads_same, subtree_at, row_positive}
use Rattle.snap_rule.proofs.Maps.{told_same}
use Rattle.snap_rule.proofs.Updates.{changed_same, changed_other, relink_other}
use Rattle.snap_rule.proofs.Trees.Ways.{way_with_value, way_renamed, thin, way_without, way_rotated}
use Rattle.snap_rule.proofs.Readers.Loads.{own_told}

pub not_shared : (s : State) (parent : ℕ) (d : Side) (n : ℕ) → IsParent s parent d → IsShared s n → n ≢ parent
not_shared s parent d n (inl z) u e = omega (arith, u.is_row, e, z.0)
not_shared s parent d n (inr l) u e = l.own (subst (IsShared s) e u)

pub same_row : (s : State) (n : ℕ) → SameRow s s n
same_row s n = record { key = refl; birth = refl; stamp = refl; height = refl; value = refl; link = λ d. refl }

-- a value is stored
pub store_evolves : (s : State) (row : ℕ) (e : Entry) → TreeOk s → MayStoreValue s row e → Evolves s (value_stored s row e)
store_evolves s row e tree_ok may =
    let other : (n : ℕ) → n ≢ row → changed s.value row (value_word (call_value e.call)) n ≡ s.value n = λ n z. changed_other s.value row (value_word (call_value e.call)) n z in
    record {
      history = record { rest = e ∷ []; is = refl };
      linked = λ n h. h;
      epoch = omega arith;
      key = λ n h. refl;
      birth = λ n h. refl;
      stamp = λ n h. omega arith;
      place = λ n k w u m q. inr (inl ((λ x. u (record { is_row = x.is_row; older = x.older })), way_with_value row (call_value e.call) s.tree k n w));
      shared = λ n h u. record { key = refl; birth = refl; stamp = refl; height = refl; value = other n (not_shared s row Left n (inr may.live) u); link = λ d. refl };
      unlinked = λ n h u m. absurd (u m);
      gone = λ n h u. other n (λ z. (tree_ok.rows row may.live.stands).1 (subst (λ (x : ℕ). IsUnlinked (s.stamp x)) z u));
      value = λ n h z. dite (ℕ_discrete n row)
          (λ q. subst (λ (x : ℕ). changed s.value row (value_word (call_value e.call)) x ≡ value_word (told (s.history ++ e ∷ []) (s.key x))) (sym q)
          (changed_same s.value row (value_word (call_value e.call)) ∙ ap value_word (sym (told_same s.history e)) ∙ ap (λ (x : ℕ). value_word (told (s.history ++ e ∷ []) x)) (sym may.key)))
          (λ q. absurd (z (other n q)));
      entered = omega arith;
      none_enters = λ q z. z;
      quiet = λ z. absurd (may.writing z);
    }

-- the cut
cut_place : (s : State) (n k : ℕ) → TreeOk s → LinksOk s → ChangesOk s → MayCut s → OnWay s.tree k n → OnImage (cut s) s.history n k
cut_place s n k tree_ok links_ok changes_ok may w =
    let u = subtree_at s s.links s.tree k n tree_ok.reads w in
    let t : Tree = node u.top u.on_left u.on_right in
    let row : (r : ℕ) → Stands r s.tree → In r s.linked × IsShared (cut s) r = λ r h. let l = (tree_ok.rows r h).0 in (l, record { is_row = row_positive s s.links s.tree r tree_ok.reads h; older = let b = links_ok.births r l in omega arith }) in
    record {
      shared = (row n (way_stands s.tree k n w)).1;
      image = t;
      is_image = record {
        top = u.row;
        reads = reads_same s (cut s) s.links s.link t u.reads (λ r h. (refl, refl, refl, λ d. subst (LinkFits s r d) (may.no_change r d) (changes_ok.fits r d (inr (u.stands r h)))));
        rows = each_stands (λ r. In r s.linked × IsShared (cut s) r) t (λ r h. row r (u.stands r h));
      };
      tells = now s.history s.history (λ p. find t k ≡ told p k) (begins_refl s.history) (u.finds ∙ tree_ok.tells k);
    }

-- what a clone answers from: the tree at the cut, read from its root
pub cut_image : (s : State) → TreeOk s → LinksOk s → ChangesOk s → MayCut s → IsImage (cut s) (s.link 0 Right) s.tree
cut_image s tree_ok links_ok changes_ok may =
    let same : (n : ℕ) (d : Side) → (n ≡ 0) ⊎ Stands n s.tree → s.link n d ≡ s.links n d = λ n d h. subst (LinkFits s n d) (may.no_change n d) (changes_ok.fits n d h) in
    record {
      top = sym (same 0 Right (inl refl) ∙ tree_ok.root);
      reads = reads_same s (cut s) s.links s.link s.tree tree_ok.reads (λ r h. (refl, refl, refl, λ d. same r d (inr h)));
      rows = each_stands (λ r. In r s.linked × IsShared (cut s) r) s.tree (λ r h. let l = (tree_ok.rows r h).0 in (l, record { is_row = row_positive s s.links s.tree r tree_ok.reads h; older = let b = links_ok.births r l in omega arith }));
    }

pub cut_evolves : (s : State) → TreeOk s → LinksOk s → ChangesOk s → MayCut s → Evolves s (cut s)
cut_evolves s tree_ok links_ok changes_ok may = record {
  history = begins_refl s.history;
  linked = λ n h. h;
  epoch = omega arith;
  key = λ n h. refl;
  birth = λ n h. refl;
  stamp = λ n h. omega arith;
  place = λ n k w u m q. inr (inr (cut_place s n k tree_ok links_ok changes_ok may w));
  shared = λ n h u. record { key = refl; birth = refl; stamp = refl; height = refl; value = refl; link = λ d. refl };
  unlinked = λ n h u m. absurd (u m);
  gone = λ n h u. refl;
  value = λ n h z. absurd (z refl);
  entered = omega arith;
  none_enters = λ q z. z;
  quiet = λ z n h. (record { key = refl; birth = refl; stamp = refl; height = refl; value = refl; link = λ d. refl }, refl);
}

-- a copy is linked
pub copy_evolves : (s : State) (parent : ℕ) (d : Side) (row copy : ℕ) → MayLinkCopy s parent d row copy → Evolves s (copy_linked s parent d row copy)
copy_evolves s parent d row copy may = record {
  history = begins_refl s.history;
  linked = λ n h. inr h;
  epoch = omega arith;
  key = λ n h. refl;
  birth = λ n h. refl;
  stamp = λ n h. omega arith;
  place = λ n k w u m q. inr (inl ((λ x. u (record { is_row = x.is_row; older = x.older })), way_renamed row copy s.tree k n (λ z. u (subst (IsShared s) (sym z) may.shared)) w));
  shared = λ n h u. record { key = refl; birth = refl; stamp = refl; height = refl; value = refl; link = λ e. relink_other s.link parent d copy n e (not_shared s parent d n may.parent_live u) };
  unlinked = λ n h u m. absurd (u m);
  gone = λ n h u. refl;
  value = λ n h z. absurd (z refl);
  entered = omega arith;
  none_enters = λ q z. z;
  quiet = λ z. absurd (may.writing z);
}

-- a row gets the unlinked mark
pub word_none : (o : Option ℕ) → value_word o ≡ 0 → o ≡ None
word_none None e = refl
word_none (Some v) e = absurd (omega (arith, e))

pub unlink_thin : (s : State) (parent : ℕ) (d : Side) (row : ℕ) → ChangesOk s → MayMarkUnlinked s parent d row
    → (s.link row Left ≡ 0) ⊎ (s.link row Right ≡ 0)
    → (s.links row Left ≡ 0) ⊎ (s.links row Right ≡ 0)
unlink_thin s parent d row changes_ok may c = elim c [ inl z ↦ inl (sym (same Left) ∙ z) | inr z ↦ inr (sym (same Right) ∙ z) ]
  where
    same : (e : Side) → s.link row e ≡ s.links row e
    same e = subst (LinkFits s row e) (may.no_change row e (inr refl)) (changes_ok.fits row e (inr may.live.stands))

pub stamp_up : (s : State) (row more n : ℕ) → s.stamp n ≤ changed s.stamp row (s.stamp row + more) n
stamp_up s row more n = dite (ℕ_discrete n row)
    (λ q. let e = changed_same s.stamp row (s.stamp row + more) in subst (λ (x : ℕ). s.stamp x ≤ changed s.stamp row (s.stamp row + more) x) (sym q) (omega arith))
    (λ q. let e = changed_other s.stamp row (s.stamp row + more) n q in omega arith)

pub stamp_moves : (s : State) (row more n : ℕ) → 0 < more → changed s.stamp row (s.stamp row + more) n ≡ s.stamp n → n ≢ row
stamp_moves s row more n z e q = let f = changed_same s.stamp row (s.stamp row + more) in let g : changed s.stamp row (s.stamp row + more) row ≡ s.stamp row = subst (λ (x : ℕ). changed s.stamp row (s.stamp row + more) x ≡ s.stamp x) q e in omega arith

pub unlink_evolves : (s : State) (parent : ℕ) (d : Side) (row : ℕ) → TreeOk s → ChangesOk s → MayMarkUnlinked s parent d row
    → Evolves s (unlinked_marked s parent d row)
unlink_evolves s parent d row tree_ok changes_ok may =
    let other : (n : ℕ) → n ≢ row → changed s.stamp row (s.stamp row + 1) n ≡ s.stamp n = λ n z. changed_other s.stamp row (s.stamp row + 1) n z in
    record {
      history = begins_refl s.history;
      linked = λ n h. h;
      epoch = omega arith;
      key = λ n h. refl;
      birth = λ n h. refl;
      stamp = λ n h. stamp_up s row 1 n;
      place = λ n k w u m q. inr (inl (
        (λ x. u (record { is_row = x.is_row; older = x.older })),
        way_without row s.tree k n (stamp_moves s row 1 n (omega arith) q) (thin s s.links row s.tree tree_ok.reads (unlink_thin s parent d row changes_ok may may.one_child)) w,
      ));
      shared = λ n h u. record { key = refl; birth = refl; stamp = other n (not_shared s row Left n (inr may.live) u); height = refl; value = refl; link = λ e. refl };
      unlinked = λ n h u m. dite (ℕ_discrete n row)
          (λ q. subst (λ (x : ℕ). (s.value x ≡ 0) × (told s.history (s.key x) ≡ None)) (sym q) (may.no_value, word_none (told s.history (s.key row)) (sym (own_told s tree_ok row may.live.stands) ∙ may.no_value)))
          (λ q. absurd (u (subst IsUnlinked (other n q) m)));
      gone = λ n h u. refl;
      value = λ n h z. absurd (z refl);
      entered = omega arith;
      none_enters = λ q z. z;
      quiet = λ z. absurd (may.writing z);
    }

-- a row gets the shrinking mark
pub shrink_evolves : (s : State) (row : ℕ) → MayMarkShrinking s row → Evolves s (shrinking_marked s row)
shrink_evolves s row may =
    let other : (n : ℕ) → n ≢ row → changed s.stamp row (s.stamp row + 2) n ≡ s.stamp n = λ n z. changed_other s.stamp row (s.stamp row + 2) n z in
    record {
      history = begins_refl s.history;
      linked = λ n h. h;
      epoch = omega arith;
      key = λ n h. refl;
      birth = λ n h. refl;
      stamp = λ n h. stamp_up s row 2 n;
      place = λ n k w u m q. inr (inl ((λ x. u (record { is_row = x.is_row; older = x.older })), w));
      shared = λ n h u. record { key = refl; birth = refl; stamp = other n (not_shared s row Left n (inr may.live) u); height = refl; value = refl; link = λ e. refl };
      unlinked = λ n h u m. dite (ℕ_discrete n row)
          (λ q. let g : IsUnlinked (s.stamp row + 2) = subst IsUnlinked (changed_same s.stamp row (s.stamp row + 2)) (subst (λ (x : ℕ). IsUnlinked (changed s.stamp row (s.stamp row + 2) x)) q m) in let f = may.unmarked in absurd (omega arith))
          (λ q. absurd (u (subst IsUnlinked (other n q) m)));
      gone = λ n h u. refl;
      value = λ n h z. absurd (z refl);
      entered = omega arith;
      none_enters = λ q z. z;
      quiet = λ z. absurd (may.writing z);
    }

-- the raised row comes into the lowered row's place
pub raise_evolves : (s : State) (parent : ℕ) (p : Side) (row : ℕ) (d : Side) (raised : ℕ) → TreeOk s → MayLinkParent s parent p row d raised
    → Evolves s (parent_linked s parent p row d raised)
raise_evolves s parent p row d raised tree_ok may = record {
  history = begins_refl s.history;
  linked = λ n h. h;
  epoch = omega arith;
  key = λ n h. refl;
  birth = λ n h. refl;
  stamp = λ n h. omega arith;
  place = λ n k w u m q. inr (inl (
    (λ x. u (record { is_row = x.is_row; older = x.older })),
    way_rotated row d 0 (2 ^ 64) s.tree k n (λ z. let g : IsUnmarked (s.stamp row) = subst (λ (x : ℕ). IsUnmarked (s.stamp x)) z m in let f = may.marked in omega arith) tree_ok.ordered w,
  ));
  shared = λ n h u. record { key = refl; birth = refl; stamp = refl; height = refl; value = refl; link = λ e. relink_other s.link parent p raised n e (not_shared s parent p n may.parent_live u) };
  unlinked = λ n h u m. absurd (u m);
  gone = λ n h u. refl;
  value = λ n h z. absurd (z refl);
  entered = omega arith;
  none_enters = λ q z. z;
  quiet = λ z. absurd (may.writing z);
}
