-- Each kind of step keeps the rule.
use Rattle.std.proofs.Common.{◌≡◌, ◌≢◌, ℕ, ◌<◌, ◌≤◌, ◌⊎◌, inl, inr, [], ◌∷◌, ◌++◌, None, refl, ap, sym, ◌∙◌, subst, arith}
use Rattle.snap_model.specs.History.{told, call_key}
use Rattle.snap_model.specs.declared.call.Entry.{Entry}
use Rattle.snap_rule.specs.Tree.{Stands, OnWay, find, value_word}
use Rattle.snap_stamp.specs.declared.side.Side.{Side}
use Rattle.snap_stamp.specs.declared.side.Side.TheVariants.{Left}
use Rattle.snap_rule.specs.State.{State, In, WasLinked, IsShared}
use Rattle.snap_rule.specs.Rule.{TableOk, IsLive, LinkFits}
use Rattle.snap_rule.specs.Kinds.Entries.{value_stored, MayStoreValue, leaf_linked, MayLinkLeaf, absent_confirmed, MayConfirmAbsent}
use Rattle.snap_rule.specs.Kinds.Clones.{cut, MayCut, copy_linked, MayLinkCopy}
use Rattle.snap_rule.specs.Kinds.Unlinking.{unlinked_marked, MayMarkUnlinked, spliced, MaySplice}
use Rattle.snap_rule.specs.Kinds.Rotation.{shrinking_marked, MayMarkShrinking, lowered_linked, MayLinkLowered, raised_linked, MayLinkRaised, parent_linked, MayLinkParent, shrinking_cleared, MayClearShrinking}
use Rattle.snap_rule.specs.Kinds.Words.{height_stored, own_stored, MayStoreOwn, lock_stored, header_stored, MayCount}
use native.Mathlib.Decide.{ℕ_discrete}
use mathlib.Core.Logic.{dite}
use Rattle.snap_rule.specs.State.Change.{plain}
use Rattle.snap_rule.specs.Evolves.{Evolves}
use Rattle.snap_rule.specs.Position.{Faces}
use Rattle.snap_rule.proofs.Maps.{told_same, told_other}
use Rattle.snap_rule.proofs.Evolving.Telling.{word_none}
use Rattle.snap_rule.proofs.Readers.Loads.{own_told, stands_there, tree_absent, tree_below}
use Rattle.snap_rule.proofs.Updates.{changed_other}
use Rattle.snap_rule.proofs.Trees.{reads_same}
use Rattle.snap_rule.proofs.Parts.Links.{store_links, height_links, cut_links, unlink_links, shrink_links, clear_links, splice_links, lower_links, lift_links, raise_links, copy_links, leaf_links, store_sharing, height_sharing, cut_sharing, unlink_sharing, shrink_sharing, clear_sharing, splice_sharing, lower_sharing, lift_sharing, raise_sharing, copy_sharing, leaf_sharing, sharing_kept}
use Rattle.snap_rule.proofs.Parts.Changes.{store_changes, height_changes, cut_changes, unlink_changes, shrink_changes, clear_changes, splice_changes, lower_changes, lift_changes, raise_changes, copy_changes, leaf_changes, fits_kept, live_on}
use Rattle.snap_rule.proofs.Parts.Present.{store_present, height_present, cut_present, unlink_present, splice_present, shrink_present, lower_present, lift_present, raise_present, clear_present, copy_present, leaf_present}
use Rattle.snap_rule.proofs.Parts.Tree.{store_tree, height_tree, cut_tree, unlink_tree, shrink_tree, clear_tree, splice_tree, lower_tree, lift_tree, raise_tree, copy_tree, leaf_tree, at_parent}
use Rattle.snap_rule.proofs.Evolving.Silent.{linked_other}

module _ (s : State) (ok : TableOk s) where
  pub store_keeps : (row : ℕ) (e : Entry) → MayStoreValue s row e → TableOk (value_stored s row e)
  store_keeps row e may = record {
    tree = store_tree s row e ok.tree may;
    present = store_present s ok.present row e;
    links = store_links s ok.tree ok.links row e;
    sharing = store_sharing s ok.sharing row e;
    changes = store_changes s row e ok.changes;
    counts = record { entered = ok.counts.entered };
  }

  pub height_keeps : (row x : ℕ) → TableOk (height_stored s row x)
  height_keeps row x = record {
    tree = height_tree s row x ok.tree;
    present = height_present s ok.present row x;
    links = height_links s ok.tree ok.links row x;
    sharing = height_sharing s ok.sharing row x;
    changes = height_changes s row x ok.changes;
    counts = record { entered = ok.counts.entered };
  }

  pub cut_keeps : MayCut s → TableOk (cut s)
  cut_keeps may = record {
    tree = cut_tree s ok.tree;
    present = cut_present s ok.present;
    links = cut_links s ok.tree ok.links;
    sharing = cut_sharing s ok.tree ok.links;
    changes = cut_changes s ok.changes may;
    counts = record { entered = ok.counts.entered };
  }

  pub unlink_keeps : (parent : ℕ) (d : Side) (row : ℕ) → MayMarkUnlinked s parent d row → TableOk (unlinked_marked s parent d row)
  unlink_keeps parent d row may = record {
    tree = unlink_tree s parent d row ok.tree ok.links ok.changes may;
    present = unlink_present s ok.present parent d row ok.tree ok.changes may;
    links = unlink_links s ok.tree ok.links parent d row may.live;
    sharing = unlink_sharing s ok.sharing parent d row;
    changes = unlink_changes s parent d row ok.tree ok.links ok.changes may;
    counts = record { entered = ok.counts.entered };
  }

  pub splice_keeps : (parent : ℕ) (d : Side) (row : ℕ) → MaySplice s parent d row → TableOk (spliced s parent d)
  splice_keeps parent d row may = record {
    tree = splice_tree s parent d ok.tree;
    present = splice_present s ok.present parent d;
    links = splice_links s ok.tree ok.links parent d row may.parent_live (at_parent s ok.tree parent d may.parent_live);
    sharing = splice_sharing s ok.sharing parent d row may;
    changes = splice_changes s parent d row ok.changes may;
    counts = record { entered = ok.counts.entered };
  }

  pub shrink_keeps : (row : ℕ) → MayMarkShrinking s row → TableOk (shrinking_marked s row)
  shrink_keeps row may = record {
    tree = shrink_tree s row ok.tree;
    present = shrink_present s ok.present row;
    links = shrink_links s ok.tree ok.links row may.live;
    sharing = shrink_sharing s ok.sharing row;
    changes = shrink_changes s row ok.changes may;
    counts = record { entered = ok.counts.entered };
  }

  pub lower_keeps : (row : ℕ) (d : Side) (raised : ℕ) → MayLinkLowered s row d raised → TableOk (lowered_linked s row d raised)
  lower_keeps row d raised may = record {
    tree = lower_tree s row d raised ok.tree;
    present = lower_present s ok.present row d raised;
    links = lower_links s ok.tree ok.links row d raised may;
    sharing = lower_sharing s ok.sharing row d raised may;
    changes = lower_changes s row d raised ok.changes may;
    counts = record { entered = ok.counts.entered };
  }

  pub lift_keeps : (row : ℕ) (d : Side) (raised : ℕ) → MayLinkRaised s row d raised → TableOk (raised_linked s row d raised)
  lift_keeps row d raised may = record {
    tree = lift_tree s row d raised ok.tree;
    present = lift_present s ok.present row d raised;
    links = lift_links s ok.tree ok.links row d raised may;
    sharing = lift_sharing s ok.sharing row d raised may;
    changes = lift_changes s row d raised ok.changes may;
    counts = record { entered = ok.counts.entered };
  }

  pub raise_keeps : (parent : ℕ) (p : Side) (row : ℕ) (d : Side) (raised : ℕ) → MayLinkParent s parent p row d raised
      → TableOk (parent_linked s parent p row d raised)
  raise_keeps parent p row d raised may = record {
    tree = raise_tree s parent p row d raised ok.tree ok.links ok.changes may;
    present = raise_present s ok.present parent p row d raised;
    links = raise_links s ok.tree ok.links parent p row d raised may;
    sharing = raise_sharing s ok.sharing parent p row d raised may;
    changes = raise_changes s parent p row d raised ok.changes may;
    counts = record { entered = ok.counts.entered };
  }

  pub clear_keeps : (row : ℕ) → MayClearShrinking s row → TableOk (shrinking_cleared s row)
  clear_keeps row may = record {
    tree = clear_tree s row ok.tree;
    present = clear_present s ok.present row;
    links = clear_links s ok.tree ok.links row may.live;
    sharing = clear_sharing s ok.sharing row;
    changes = clear_changes s row ok.changes may;
    counts = record { entered = ok.counts.entered };
  }

  pub copy_keeps : (parent : ℕ) (d : Side) (row copy : ℕ) → MayLinkCopy s parent d row copy → TableOk (copy_linked s parent d row copy)
  copy_keeps parent d row copy may = record {
    tree = copy_tree s parent d row copy ok.tree ok.links ok.changes may;
    present = copy_present s ok.present parent d row copy ok.tree ok.links ok.changes may;
    links = copy_links s ok.tree ok.links parent d row copy may;
    sharing = copy_sharing s ok.sharing parent d row copy may;
    changes = copy_changes s parent d row copy ok.tree ok.changes may;
    counts = record { entered = ok.counts.entered };
  }

  pub leaf_keeps : (parent : ℕ) (d : Side) (row : ℕ) (e : Entry) → MayLinkLeaf s parent d row e → TableOk (leaf_linked s parent d row e)
  leaf_keeps parent d row e may = record {
    tree = leaf_tree s parent d row e ok.tree ok.changes may;
    present = leaf_present s ok.present parent d row e ok.tree ok.changes may;
    links = leaf_links s ok.tree ok.links parent d row e may;
    sharing = leaf_sharing s ok.sharing parent d row e may;
    changes = leaf_changes s parent d row e ok.tree ok.changes may;
    counts = record { entered = ok.counts.entered };
  }

  pub lock_keeps : (row x : ℕ) → TableOk (lock_stored s row x)
  lock_keeps row x =
      let s' : State = lock_stored s row x in
      let live : (n : ℕ) → IsLive s n → IsLive s' n = λ n l. record { stands = l.stands; own = λ u. l.own (record { is_row = u.is_row; older = u.older }) } in
      record {
        tree = record { tells = ok.tree.tells; reads = reads_same s s' s.links s.links s.tree ok.tree.reads (λ n h. (refl, refl, refl, λ d. refl)); root = ok.tree.root; ordered = ok.tree.ordered; rows = ok.tree.rows };
        present = record { stands = ok.present.stands; replaced = λ n h. let r = ok.present.replaced n h in (r.0, record { is_row = r.1.is_row; older = r.1.older }); gone = ok.present.gone };
        links = record { no_zero = ok.links.no_zero; links = ok.links.links; births = ok.links.births; zero_stamp = ok.links.zero_stamp; zero_left = ok.links.zero_left };
        sharing = sharing_kept s s' (λ n h u. (h, record { is_row = u.is_row; older = u.older })) (λ n d h u. refl) (λ n u. record { is_row = u.is_row; older = u.older }) ok.sharing;
        changes = record { fits = λ n d h. fits_kept s s' n d (s.pending n d) refl refl (λ c u. u) (λ c q u. u) (λ c q l u. (live c l, u)) (ok.changes.fits n d h); live = λ n d z. live_on s s' n (live n) (ok.changes.live n d z) };
        counts = record { entered = ok.counts.entered };
      }

  pub header_keeps : (g a w : ℕ) → MayCount s g a w → TableOk (header_stored s g a w)
  header_keeps g a w may =
      let s' : State = header_stored s g a w in
      let live : (n : ℕ) → IsLive s n → IsLive s' n = λ n l. record { stands = l.stands; own = λ u. l.own (record { is_row = u.is_row; older = u.older }) } in
      record {
        tree = record { tells = ok.tree.tells; reads = reads_same s s' s.links s.links s.tree ok.tree.reads (λ n h. (refl, refl, refl, λ d. refl)); root = ok.tree.root; ordered = ok.tree.ordered; rows = ok.tree.rows };
        present = record { stands = ok.present.stands; replaced = λ n h. let r = ok.present.replaced n h in (r.0, record { is_row = r.1.is_row; older = r.1.older }); gone = ok.present.gone };
        links = record { no_zero = ok.links.no_zero; links = ok.links.links; births = ok.links.births; zero_stamp = ok.links.zero_stamp; zero_left = ok.links.zero_left };
        sharing = sharing_kept s s' (λ n h u. (h, record { is_row = u.is_row; older = u.older })) (λ n d h u. refl) (λ n u. record { is_row = u.is_row; older = u.older }) ok.sharing;
        changes = record { fits = λ n d h. fits_kept s s' n d (s.pending n d) refl refl (λ c u. u) (λ c q u. u) (λ c q l u. (live c l, u)) (ok.changes.fits n d h); live = λ n d z. live_on s s' n (live n) (ok.changes.live n d z) };
        counts = record { entered = may.count };
      }

  pub own_keeps : (row k b h v : ℕ) (l : Side → ℕ) → MayStoreOwn s row → TableOk (own_stored s row k b h v l)
  own_keeps row k b h v l may =
      let s' : State = own_stored s row k b h v l in
      let birth : (n : ℕ) → In n s.linked → s'.birth n ≡ s.birth n = λ n i. changed_other s.birth row b n (linked_other s row n may (inr i)) in
      let link : (n : ℕ) (d : Side) → WasLinked s n → s'.link n d ≡ s.link n d = λ n d i. ap (λ (f : Side → ℕ). f d) (changed_other s.link row l n (linked_other s row n may i)) in
      let there : (n : ℕ) → Stands n s.tree → In n s.linked = λ n i. (ok.tree.rows n i).0 in
      let back : (n : ℕ) → In n s.linked → IsShared s' n → IsShared s n = λ n i u. record { is_row = u.is_row; older = subst (λ (x : ℕ). x < s.epoch) (birth n i) u.older } in
      let on : (n : ℕ) → In n s.linked → IsShared s n → IsShared s' n = λ n i u. record { is_row = u.is_row; older = subst (λ (x : ℕ). x < s.epoch) (sym (birth n i)) u.older } in
      let live : (n : ℕ) → IsLive s n → IsLive s' n = λ n i. record { stands = i.stands; own = λ u. i.own (back n (there n i.stands) u) } in
      record {
        tree = record { tells = ok.tree.tells; reads = reads_same s s' s.links s.links s.tree ok.tree.reads (λ n i. let z = linked_other s row n may (inr (there n i)) in (changed_other s.key row k n z, changed_other s.value row v n z, changed_other s.height row h n z, λ d. refl)); root = ok.tree.root; ordered = ok.tree.ordered; rows = ok.tree.rows };
        present = record { stands = ok.present.stands; replaced = λ n i. let r = ok.present.replaced n i in (r.0, on n r.0 r.1); gone = ok.present.gone };
        links = record { no_zero = ok.links.no_zero; links = λ n d i. subst (λ (x : ℕ). (x ≡ 0) ⊎ In x s.linked) (sym (link n d i)) (ok.links.links n d i); births = λ n i. subst (λ (x : ℕ). x ≤ s.epoch) (sym (birth n i)) (ok.links.births n i); zero_stamp = ok.links.zero_stamp; zero_left = link 0 Left (inl refl) ∙ ok.links.zero_left };
        sharing = record { links = λ n d i u z. let e = link n d (inr (there n i)) in subst (IsShared s') (sym e) (on (s.link n d) (go_linked (ok.links.links n d (inr (there n i))) (λ q. z (e ∙ q))) (ok.sharing.links n d i (back n (there n i) u) (λ q. z (e ∙ q)))) };
        changes = record { fits = λ n d i. fits_kept s s' n d (s.pending n d) (link n d (reached n i)) refl (λ c u. u) (λ c q u. u) (λ c q j u. (live c j, u)) (ok.changes.fits n d i); live = λ n d z. live_on s s' n (live n) (ok.changes.live n d z) };
        counts = record { entered = ok.counts.entered };
      }
    where
      go_linked : {x : ℕ} → (x ≡ 0) ⊎ In x s.linked → x ≢ 0 → In x s.linked
      go_linked (inl e) z = absurd (z e)
      go_linked (inr i) z = i

      reached : (n : ℕ) → (n ≡ 0) ⊎ Stands n s.tree → WasLinked s n
      reached n (inl z) = inl z
      reached n (inr i) = inr (ok.tree.rows n i).0

-- what two states that differ in the history alone have in common
pub absent_evolves : (s : State) (e : Entry) → Evolves s (absent_confirmed s e)
absent_evolves s e = record {
  history = record { rest = e ∷ []; is = refl };
  linked = λ n h. h;
  epoch = omega arith;
  key = λ n h. refl;
  birth = λ n h. refl;
  stamp = λ n h. omega arith;
  place = λ n k w u m q. inr (inl ((λ y. u (record { is_row = y.is_row; older = y.older })), w));
  shared = λ n h u. record { key = refl; birth = refl; stamp = refl; height = refl; value = refl; link = λ x. refl };
  unlinked = λ n h u m. absurd (u m);
  gone = λ n h u. refl;
  value = λ n h z. absurd (z refl);
  entered = omega arith;
  none_enters = λ q z. z;
  quiet = λ z n h. (record { key = refl; birth = refl; stamp = refl; height = refl; value = refl; link = λ x. refl }, refl);
}

pub absent_keeps : (s : State) (e : Entry) → TableOk s → MayConfirmAbsent s e → TableOk (absent_confirmed s e)
absent_keeps s e ok may =
    let s' : State = absent_confirmed s e in
    let live : (n : ℕ) → IsLive s n → IsLive s' n = λ n l. record { stands = l.stands; own = λ u. l.own (record { is_row = u.is_row; older = u.older }) } in
    record {
      tree = record {
        tells = λ k. dite (ℕ_discrete k (call_key e.call))
            (λ q. subst (λ (x : ℕ). find s.tree x ≡ told (s.history ++ e ∷ []) x) (sym q) (may.absent ∙ sym (told_same s.history e ∙ may.removal)))
            (λ q. ok.tree.tells k ∙ sym (told_other s.history e k q));
        reads = reads_same s s' s.links s.links s.tree ok.tree.reads (λ n h. (refl, refl, refl, λ d. refl));
        root = ok.tree.root;
        ordered = ok.tree.ordered;
        rows = ok.tree.rows;
      };
      present = record { stands = ok.present.stands; replaced = λ n h. let r = ok.present.replaced n h in (r.0, record { is_row = r.1.is_row; older = r.1.older }); gone = ok.present.gone };
      links = record { no_zero = ok.links.no_zero; links = ok.links.links; births = ok.links.births; zero_stamp = ok.links.zero_stamp; zero_left = ok.links.zero_left };
      sharing = sharing_kept s s' (λ n h u. (h, record { is_row = u.is_row; older = u.older })) (λ n d h u. refl) (λ n u. record { is_row = u.is_row; older = u.older }) ok.sharing;
      changes = record { fits = λ n d h. fits_kept s s' n d (s.pending n d) refl refl (λ c u. u) (λ c q u. u) (λ c q l u. (live c l, u)) (ok.changes.fits n d h); live = λ n d z. live_on s s' n (live n) (ok.changes.live n d z) };
      counts = record { entered = ok.counts.entered };
    }

-- what a removal loaded under a lock tells that its key is absent: value 0 at the key's row, or link 0 at the key's place
pub absent_here : (s : State) (row : ℕ) → TableOk s → IsLive s row → s.value row ≡ 0 → find s.tree (s.key row) ≡ None
absent_here s row ok live z = word_none (find s.tree (s.key row)) (ap value_word (ok.tree.tells (s.key row)) ∙ sym (own_told s ok.tree row live.stands) ∙ z)

pub absent_below : (s : State) (k n : ℕ) (d : Side) → TableOk s → Faces s n k d → (n ≡ 0) ⊎ OnWay s.tree k n → s.pending n d ≡ plain → s.link n d ≡ 0
    → find s.tree k ≡ None
absent_below s k n d ok f w q z =
    let e : s.link n d ≡ s.links n d = subst (LinkFits s n d) q (ok.changes.fits n d (stands_there s ok.tree ok.links ok.changes k n w)) in
    ok.tree.tells k ∙ tree_absent s ok.tree ok.links ok.changes k (s.links n d) (sym e ∙ z) (tree_below s ok.tree ok.links ok.changes k n d f w)
