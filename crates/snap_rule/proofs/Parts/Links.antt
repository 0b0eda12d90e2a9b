-- Links and sharing, after each kind of step.
use Rattle.std.proofs.Common.{◌+◌, ◌≡◌, ◌≢◌, ℕ, ◌≤◌, ◌⊎◌, inl, inr, List, ◌∷◌, refl, ap, sym, ◌∙◌, subst, arith}
use Rattle.snap_model.specs.History.{call_value}
use Rattle.snap_model.specs.declared.call.Entry.{Entry}
use Rattle.snap_rule.specs.Tree.{Stands}
use Rattle.snap_stamp.specs.Sides.{other}
use Rattle.snap_stamp.specs.declared.side.Side.{Side}
use Rattle.snap_stamp.specs.declared.side.Side.TheVariants.{Left, Right}
use Rattle.snap_rule.specs.State.{State, In, WasLinked, IsShared}
use Rattle.snap_rule.specs.Rule.{TreeOk, LinksOk, SharingOk, IsLive, IsParent}
use Rattle.snap_rule.specs.Updates.{relink}
use Rattle.snap_rule.specs.Kinds.Entries.{value_stored, leaf_linked, MayLinkLeaf}
use Rattle.snap_rule.specs.Kinds.Clones.{cut, copy_linked, MayLinkCopy}
use Rattle.snap_rule.specs.Kinds.Unlinking.{unlinked_marked, spliced, MaySplice}
use Rattle.snap_rule.specs.Kinds.Rotation.{shrinking_marked, lowered_linked, MayLinkLowered, raised_linked, MayLinkRaised, parent_linked, MayLinkParent, shrinking_cleared}
use Rattle.snap_rule.specs.Kinds.Words.{height_stored}
use Rattle.snap_rule.specs.TreeChanges.{leaf_of}
use Rattle.snap_rule.proofs.Updates.{changed_other, same_place, relink_same, relink_away, relink_other}
use Rattle.snap_rule.proofs.Trees.Rows.{with_value_stands, with_height_stands, renamed_stands, without_stands, rotated_stands, grown_stands}
use Rattle.snap_rule.proofs.Evolving.Telling.{not_shared}

link_set : (link : ℕ → Side → ℕ) (r : ℕ) (d : Side) (v : ℕ) (l : List ℕ) (n : ℕ) (e : Side) → (link n e ≡ 0) ⊎ In (link n e) l → (v ≡ 0) ⊎ In v l
    → (relink link r d v n e ≡ 0) ⊎ In (relink link r d v n e) l
link_set link r d v l n e h i = elim (same_place n r e d) [
  | inl q ↦ subst (λ (x : ℕ). (x ≡ 0) ⊎ In x l) (sym (subst (λ (y : Side). relink link r d v n y ≡ v) (sym q.1) (subst (λ (y : ℕ). relink link r d v y d ≡ v) (sym q.0) (relink_same link r d v)))) i
  | inr z ↦ subst (λ (x : ℕ). (x ≡ 0) ⊎ In x l) (sym (relink_away link r d v n e z)) h
]

more : (x y : ℕ) (l : List ℕ) → (x ≡ 0) ⊎ In x l → (x ≡ 0) ⊎ In x (y ∷ l)
more x y l (inl z) = inl z
more x y l (inr h) = inr (inr h)

-- a link of a row that was linked, or a new one
module _ (s : State) (tree_ok : TreeOk s) (ok : LinksOk s) where
  reached_parent : (n : ℕ) (d : Side) → IsParent s n d → WasLinked s n
  reached_parent n d (inl z) = inl z.0
  reached_parent n d (inr l) = inr (tree_ok.rows n l.stands).0

  -- a link of a parent isn't the left one of row 0
  left_stays : (parent : ℕ) (d : Side) (v : ℕ) → IsParent s parent d → relink s.link parent d v 0 Left ≡ 0
  left_stays parent d v (inl z) = relink_away s.link parent d v 0 Left (λ q. let x : Left ≡ Right = q.1 ∙ z.1 in cc x) ∙ ok.zero_left
  left_stays parent d v (inr l) = relink_other s.link parent d v 0 Left (λ q. ok.no_zero (subst (λ (x : ℕ). In x s.linked) (sym q) (tree_ok.rows parent l.stands).0)) ∙ ok.zero_left

  pub store_links : (row : ℕ) (e : Entry) → LinksOk (value_stored s row e)
  store_links row e = record { no_zero = ok.no_zero; links = ok.links; births = ok.births; zero_stamp = ok.zero_stamp; zero_left = ok.zero_left }

  pub height_links : (row x : ℕ) → LinksOk (height_stored s row x)
  height_links row x = record { no_zero = ok.no_zero; links = ok.links; births = ok.births; zero_stamp = ok.zero_stamp; zero_left = ok.zero_left }

  pub cut_links : LinksOk (cut s)
  cut_links = record {
    no_zero = ok.no_zero;
    links = ok.links;
    births = λ n h. omega (arith, ok.births n h);
    zero_stamp = ok.zero_stamp;
    zero_left = ok.zero_left;
  }

  pub unlink_links : (parent : ℕ) (d : Side) (row : ℕ) → IsLive s row → LinksOk (unlinked_marked s parent d row)
  unlink_links parent d row live = record {
    no_zero = ok.no_zero;
    links = ok.links;
    births = ok.births;
    zero_stamp = changed_other s.stamp row (s.stamp row + 1) 0 (λ q. ok.no_zero (subst (λ (x : ℕ). In x s.linked) (sym q) (tree_ok.rows row live.stands).0)) ∙ ok.zero_stamp;
    zero_left = ok.zero_left;
  }

  pub shrink_links : (row : ℕ) → IsLive s row → LinksOk (shrinking_marked s row)
  shrink_links row live = record {
    no_zero = ok.no_zero;
    links = ok.links;
    births = ok.births;
    zero_stamp = changed_other s.stamp row (s.stamp row + 2) 0 (λ q. ok.no_zero (subst (λ (x : ℕ). In x s.linked) (sym q) (tree_ok.rows row live.stands).0)) ∙ ok.zero_stamp;
    zero_left = ok.zero_left;
  }

  pub clear_links : (row : ℕ) → IsLive s row → LinksOk (shrinking_cleared s row)
  clear_links row live = record {
    no_zero = ok.no_zero;
    links = ok.links;
    births = ok.births;
    zero_stamp = changed_other s.stamp row (s.stamp row + 2) 0 (λ q. ok.no_zero (subst (λ (x : ℕ). In x s.linked) (sym q) (tree_ok.rows row live.stands).0)) ∙ ok.zero_stamp;
    zero_left = ok.zero_left;
  }

  pub splice_links : (parent : ℕ) (d : Side) (row : ℕ) → IsParent s parent d → (s.links parent d ≡ 0) ⊎ Stands (s.links parent d) s.tree
      → LinksOk (spliced s parent d)
  splice_links parent d row live h = record {
    no_zero = ok.no_zero;
    links = λ n e i. link_set s.link parent d (s.links parent d) s.linked n e (ok.links n e i) (elim h [ inl z ↦ inl z | inr x ↦ inr (tree_ok.rows (s.links parent d) x).0 ]);
    births = ok.births;
    zero_stamp = ok.zero_stamp;
    zero_left = left_stays parent d (s.links parent d) live;
  }

  pub lower_links : (row : ℕ) (d : Side) (raised : ℕ) → MayLinkLowered s row d raised → LinksOk (lowered_linked s row d raised)
  lower_links row d raised may = record {
    no_zero = ok.no_zero;
    links = λ n e i. link_set s.link row d (s.link raised (other d)) s.linked n e (ok.links n e i) (ok.links raised (other d) (inr (tree_ok.rows raised may.raised_live.stands).0));
    births = ok.births;
    zero_stamp = ok.zero_stamp;
    zero_left = left_stays row d (s.link raised (other d)) (inr may.live);
  }

  pub lift_links : (row : ℕ) (d : Side) (raised : ℕ) → MayLinkRaised s row d raised → LinksOk (raised_linked s row d raised)
  lift_links row d raised may = record {
    no_zero = ok.no_zero;
    links = λ n e i. link_set s.link raised (other d) row s.linked n e (ok.links n e i) (inr (tree_ok.rows row may.live.stands).0);
    births = ok.births;
    zero_stamp = ok.zero_stamp;
    zero_left = left_stays raised (other d) row (inr may.raised_live);
  }

  pub raise_links : (parent : ℕ) (p : Side) (row : ℕ) (d : Side) (raised : ℕ) → MayLinkParent s parent p row d raised
      → LinksOk (parent_linked s parent p row d raised)
  raise_links parent p row d raised may = record {
    no_zero = ok.no_zero;
    links = λ n e i. link_set s.link parent p raised s.linked n e (ok.links n e i) (inr (tree_ok.rows raised may.raised_live.stands).0);
    births = ok.births;
    zero_stamp = ok.zero_stamp;
    zero_left = left_stays parent p raised may.parent_live;
  }

  pub copy_links : (parent : ℕ) (d : Side) (row copy : ℕ) → MayLinkCopy s parent d row copy → LinksOk (copy_linked s parent d row copy)
  copy_links parent d row copy may = record {
    no_zero = λ h. elim h [ inl z ↦ (let p = may.is_row in absurd (omega (arith, p, z))) | inr i ↦ absurd (ok.no_zero i) ];
    links = λ n e i. link_set s.link parent d copy (copy ∷ s.linked) n e (old n e i) (inr (inl refl));
    births = λ n h. elim h [ inl z ↦ subst (λ (x : ℕ). s.birth x ≤ s.epoch) (sym z) (omega (arith, may.birth)) | inr i ↦ ok.births n i ];
    zero_stamp = ok.zero_stamp;
    zero_left = left_stays parent d copy may.parent_live;
  }
    where
      row_linked : In row s.linked
      row_linked = elim (ok.links parent d (reached_parent parent d may.parent_live)) [
        | inl z ↦ (let p = may.shared.is_row in absurd (omega (arith, p, sym may.child ∙ z)))
        | inr h ↦ subst (λ (x : ℕ). In x s.linked) may.child h
      ]

      old : (n : ℕ) (e : Side) → WasLinked (copy_linked s parent d row copy) n → (s.link n e ≡ 0) ⊎ In (s.link n e) (copy ∷ s.linked)
      old n e (inl z) = more (s.link n e) copy s.linked (ok.links n e (inl z))
      old n e (inr (inl z)) = more (s.link n e) copy s.linked (subst (λ (x : ℕ). (x ≡ 0) ⊎ In x s.linked) (sym (ap (λ (x : ℕ). s.link x e) z ∙ may.links e)) (ok.links row e (inr row_linked)))
      old n e (inr (inr h)) = more (s.link n e) copy s.linked (ok.links n e (inr h))

  pub leaf_links : (parent : ℕ) (d : Side) (row : ℕ) (x : Entry) → MayLinkLeaf s parent d row x → LinksOk (leaf_linked s parent d row x)
  leaf_links parent d row x may = record {
    no_zero = λ h. elim h [ inl z ↦ (let p = may.is_row in absurd (omega (arith, p, z))) | inr i ↦ absurd (ok.no_zero i) ];
    links = λ n e i. link_set s.link parent d row (row ∷ s.linked) n e (old n e i) (inr (inl refl));
    births = λ n h. elim h [ inl z ↦ subst (λ (y : ℕ). s.birth y ≤ s.epoch) (sym z) (omega (arith, may.birth)) | inr i ↦ ok.births n i ];
    zero_stamp = ok.zero_stamp;
    zero_left = left_stays parent d row may.parent_live;
  }
    where
      old : (n : ℕ) (e : Side) → WasLinked (leaf_linked s parent d row x) n → (s.link n e ≡ 0) ⊎ In (s.link n e) (row ∷ s.linked)
      old n e (inl z) = more (s.link n e) row s.linked (ok.links n e (inl z))
      old n e (inr (inl z)) = inl (ap (λ (y : ℕ). s.link y e) z ∙ may.links e)
      old n e (inr (inr h)) = more (s.link n e) row s.linked (ok.links n e (inr h))

-- what shared rows of the tree lead to
pub sharing_kept : (s s' : State) → ((n : ℕ) → Stands n s'.tree → IsShared s' n → Stands n s.tree × IsShared s n)
    → ((n : ℕ) (d : Side) → Stands n s.tree → IsShared s n → s'.link n d ≡ s.link n d) → ((n : ℕ) → IsShared s n → IsShared s' n) → SharingOk s
    → SharingOk s'
sharing_kept s s' f same g ok = record {
  links = λ n d h u z. let b = f n h u in let e = same n d b.0 b.1 in subst (IsShared s') (sym e) (g (s.link n d) (ok.links n d b.0 b.1 (λ q. z (e ∙ q))));
}

module _ (s : State) (ok : SharingOk s) where
  pub store_sharing : (row : ℕ) (e : Entry) → SharingOk (value_stored s row e)
  store_sharing row e = sharing_kept s (value_stored s row e) (λ n h u. (with_value_stands row (call_value e.call) s.tree n h, record { is_row = u.is_row; older = u.older })) (λ n d h u. refl) (λ n u. record { is_row = u.is_row; older = u.older }) ok

  pub height_sharing : (row x : ℕ) → SharingOk (height_stored s row x)
  height_sharing row x = sharing_kept s (height_stored s row x) (λ n h u. (with_height_stands row x s.tree n h, record { is_row = u.is_row; older = u.older })) (λ n d h u. refl) (λ n u. record { is_row = u.is_row; older = u.older }) ok

  pub unlink_sharing : (parent : ℕ) (d : Side) (row : ℕ) → SharingOk (unlinked_marked s parent d row)
  unlink_sharing parent d row = sharing_kept s (unlinked_marked s parent d row) (λ n h u. (without_stands row s.tree n h, record { is_row = u.is_row; older = u.older })) (λ n e h u. refl) (λ n u. record { is_row = u.is_row; older = u.older }) ok

  pub shrink_sharing : (row : ℕ) → SharingOk (shrinking_marked s row)
  shrink_sharing row = sharing_kept s (shrinking_marked s row) (λ n h u. (h, record { is_row = u.is_row; older = u.older })) (λ n e h u. refl) (λ n u. record { is_row = u.is_row; older = u.older }) ok

  pub clear_sharing : (row : ℕ) → SharingOk (shrinking_cleared s row)
  clear_sharing row = sharing_kept s (shrinking_cleared s row) (λ n h u. (h, record { is_row = u.is_row; older = u.older })) (λ n e h u. refl) (λ n u. record { is_row = u.is_row; older = u.older }) ok

  pub splice_sharing : (parent : ℕ) (d : Side) (row : ℕ) → MaySplice s parent d row → SharingOk (spliced s parent d)
  splice_sharing parent d row may = sharing_kept s (spliced s parent d) (λ n h u. (h, record { is_row = u.is_row; older = u.older })) (λ n e h u. relink_other s.link parent d (s.links parent d) n e (not_shared s parent d n may.parent_live u)) (λ n u. record { is_row = u.is_row; older = u.older }) ok

  pub lower_sharing : (row : ℕ) (d : Side) (raised : ℕ) → MayLinkLowered s row d raised → SharingOk (lowered_linked s row d raised)
  lower_sharing row d raised may = sharing_kept s (lowered_linked s row d raised) (λ n h u. (h, record { is_row = u.is_row; older = u.older })) (λ n e h u. relink_other s.link row d (s.link raised (other d)) n e (not_shared s row d n (inr may.live) u)) (λ n u. record { is_row = u.is_row; older = u.older }) ok

  pub lift_sharing : (row : ℕ) (d : Side) (raised : ℕ) → MayLinkRaised s row d raised → SharingOk (raised_linked s row d raised)
  lift_sharing row d raised may = sharing_kept s (raised_linked s row d raised) (λ n h u. (h, record { is_row = u.is_row; older = u.older })) (λ n e h u. relink_other s.link raised (other d) row n e (not_shared s raised d n (inr may.raised_live) u)) (λ n u. record { is_row = u.is_row; older = u.older }) ok

  pub raise_sharing : (parent : ℕ) (p : Side) (row : ℕ) (d : Side) (raised : ℕ) → MayLinkParent s parent p row d raised
      → SharingOk (parent_linked s parent p row d raised)
  raise_sharing parent p row d raised may = sharing_kept s (parent_linked s parent p row d raised) (λ n h u. (rotated_stands row d s.tree n h, record { is_row = u.is_row; older = u.older })) (λ n e h u. relink_other s.link parent p raised n e (not_shared s parent p n may.parent_live u)) (λ n u. record { is_row = u.is_row; older = u.older }) ok

  pub copy_sharing : (parent : ℕ) (d : Side) (row copy : ℕ) → MayLinkCopy s parent d row copy → SharingOk (copy_linked s parent d row copy)
  copy_sharing parent d row copy may = sharing_kept s (copy_linked s parent d row copy)
      (λ n h u. elim (renamed_stands row copy s.tree n h) [ inl z ↦ (let p = u.older in absurd (omega (arith, p, ap s.birth z, may.birth))) | inr x ↦ (x.1, record { is_row = u.is_row; older = u.older }) ])
      (λ n e h u. relink_other s.link parent d copy n e (not_shared s parent d n may.parent_live u)) (λ n u. record { is_row = u.is_row; older = u.older }) ok

  pub leaf_sharing : (parent : ℕ) (d : Side) (row : ℕ) (x : Entry) → MayLinkLeaf s parent d row x → SharingOk (leaf_linked s parent d row x)
  leaf_sharing parent d row x may = sharing_kept s (leaf_linked s parent d row x)
      (λ n h u. elim (grown_stands parent d (leaf_of row x) s.tree n h) [ inl z ↦ (let p = u.older in absurd (omega (arith, p, ap s.birth z, may.birth))) | inr y ↦ (y, record { is_row = u.is_row; older = u.older }) ])
      (λ n e h u. relink_other s.link parent d row n e (not_shared s parent d n may.parent_live u)) (λ n u. record { is_row = u.is_row; older = u.older }) ok

-- at a cut each row that was linked comes to be shared
pub cut_sharing : (s : State) → TreeOk s → LinksOk s → SharingOk (cut s)
cut_sharing s tree_ok ok = record {
  links = λ n d h u z. elim (ok.links n d (inr (tree_ok.rows n h).0)) [ inl q ↦ absurd (z q) | inr i ↦ shared (s.link n d) i z ];
}
  where
    shared : (n : ℕ) → In n s.linked → n ≢ 0 → IsShared (cut s) n
    shared n i z = record { is_row = omega arith; older = omega (arith, ok.births n i) }
