-- The debts after the kinds of step that change links of the tree.
use Rattle.std.proofs.Common.{◌≡◌, ◌≢◌, ℕ, List, zero, suc, ◌+◌, ◌≤◌, ◌^◌, ◌⊎◌, inl, inr, [], Some, refl, ap, ap₂, sym, ◌∙◌, subst, arith}
use native.Mathlib.Decide.{ℕ_discrete}
use mathlib.Core.Logic.{dite}
use Rattle.snap_model.specs.declared.call.Entry.{Entry}
use Rattle.snap_model.specs.History.{call_key, call_value}
use Rattle.snap_stamp.specs.declared.side.Side.{Side}
use Rattle.snap_rule.specs.Tree.{Stands, OnWay}
use Rattle.snap_stamp.specs.Sides.{other}
use Rattle.snap_stamp.specs.declared.side.Side.TheVariants.{Left, Right}
use Rattle.snap_rule.specs.State.{State, In, IsShared}
use Rattle.snap_stamp.specs.Stamps.{IsUnlinked, IsUnmarked}
use Rattle.snap_rule.specs.State.Change.{plain}
use Rattle.snap_rule.specs.Rule.{IsLive, TableOk, LinkFits, IsParent}
use Rattle.snap_rule.specs.Updates.{changed, relink}
use Rattle.snap_rule.specs.TreeChanges.{without, leaf_of}
use Rattle.snap_rule.specs.Kinds.Entries.{leaf_linked, MayLinkLeaf}
use Rattle.snap_rule.specs.Kinds.Clones.{copy_linked, MayLinkCopy}
use Rattle.snap_rule.specs.Kinds.Unlinking.{unlinked_marked, MayMarkUnlinked, only_child}
use Rattle.snap_rule.specs.Kinds.Rotation.{parent_linked, MayLinkParent}
use Rattle.snap_rule.specs.Settled.{height_at, child_height, IsSettled}
use Rattle.snap_rule.specs.declared.debt.Debt.{Debt}
use Rattle.snap_rule.specs.declared.debt.Mark.{Mark}
use Rattle.snap_rule.specs.Debt.{IsListed, Owes, OwesNone, OnPath, DebtFits, DebtOk}
use Rattle.snap_rule.specs.Debt.Step.{IsFree, Owing}
use Rattle.snap_rule.specs.Debt.Lists.{noted, aimed, taken, Aims}
use Rattle.snap_rule.specs.Debt.Kinds.{leaf_debt, MayOweRaise, raise_debt}
use Rattle.snap_rule.proofs.Updates.{changed_same, changed_other, relink_other, relink_same, relink_away, same_place}
use Rattle.snap_rule.proofs.Trees.Ways.{thin, way_renamed, way_without, way_rotated, way_grown}
use Rattle.snap_rule.proofs.Trees.Rows.{stands_renamed, renamed_stands, stands_without, without_stands, stands_rotated, rotated_stands, stands_grown, grown_stands}
use Rattle.snap_rule.proofs.Evolving.Telling.{word_none, unlink_thin, stamp_up, stamp_moves}
use Rattle.snap_rule.proofs.Readers.Second.{plain_word}
use Rattle.snap_rule.proofs.Parts.Tree.{row_stands}
use Rattle.snap_rule.proofs.Table.{leaf_keeps, copy_keeps, unlink_keeps, raise_keeps}
use Rattle.snap_rule.proofs.Debts.{balanced_same, settled_same, live_same, owed_back, debt_step, own_fits, noted_here, noted_there, noted_back, aimed_list, aimed_there, aimed_key, aimed_turning}
use Rattle.snap_rule.proofs.Debts.Kinds.{owing, taken_after, parent_is_live, other_free, shared_settled, row_to_root, row_to_parent, parent_to_row, own_path, on_path}
use Rattle.snap_rule.proofs.Debts.Turns.{not_zero}

-- the word of a link that is in no change
pub true_link : (s : State) (parent : ℕ) (d : Side) → TableOk s → IsParent s parent d → s.pending parent d ≡ plain
    → s.link parent d ≡ s.links parent d
true_link s parent d ok live e = subst (LinkFits s parent d) e (ok.changes.fits parent d (place live))
  where
    place : IsParent s parent d → (parent ≡ 0) ⊎ Stands parent s.tree
    place (inl q) = inl q.0
    place (inr l) = inr l.stands

-- a leaf is linked
module _ (s : State) (debts : ℕ → Debt) (id parent : ℕ) (d : Side) (row : ℕ) (e : Entry) (ok : TableOk s) (debt : DebtOk s debts) (may : MayLinkLeaf s parent d row e) (free : IsFree debts id parent) (none : OwesNone s (debts id)) where
  base : ℕ → Side → ℕ
  base = changed s.links row (s.link row)

  fresh : (n : ℕ) → Stands n s.tree → n ≢ row
  fresh n h q = may.fresh (subst (λ (x : ℕ). In x s.linked) q (ok.tree.rows n h).0)

  leaf_apart : row ≢ parent
  leaf_apart = not_parent may.parent_live
    where
      not_parent : IsParent s parent d → row ≢ parent
      not_parent (inl q) e = let p = may.is_row in omega (arith, q.0)
      not_parent (inr l) e = fresh parent l.stands (sym e)

  leaf_live : (n : ℕ) → IsLive s n → IsLive (leaf_linked s parent d row e) n
  leaf_live n l = live_same s (leaf_linked s parent d row e) n refl refl (stands_grown parent d (leaf_of row e) s.tree n l.stands) l

  leaf_ends : (x : Side) → relink (changed s.links row (s.link row)) parent d row row x ≡ 0
  leaf_ends x = relink_other (changed s.links row (s.link row)) parent d row row x leaf_apart ∙ ap (λ (f : Side → ℕ). f x) (changed_same s.links row (s.link row)) ∙ may.links x

  leaf_settled : IsSettled (leaf_linked s parent d row e) row
  leaf_settled =
      let x : child_height (leaf_linked s parent d row e) row Left ≡ 0 = ap (height_at s.height) (leaf_ends Left) in
      let y : child_height (leaf_linked s parent d row e) row Right ≡ 0 = ap (height_at s.height) (leaf_ends Right) in
      (balanced_same 1 0 0 (s.height row) (child_height (leaf_linked s parent d row e) row Left) (child_height (leaf_linked s parent d row e) row Right) may.height x y (record { sum = refl; left_low = omega arith; right_low = omega arith }), inl (λ z. may.is_put (word_none (call_value e.call) (sym may.value ∙ z))))

  leaf_same : (n : ℕ) (x : Side) → Stands n s.tree → n ≢ parent → relink (changed s.links row (s.link row)) parent d row n x ≡ s.links n x
  leaf_same n x h z = relink_other (changed s.links row (s.link row)) parent d row n x z ∙ ap (λ (f : Side → ℕ). f x) (changed_other s.links row (s.link row) n (fresh n h))

  leaf_path : parent ≢ 0 → OnPath (leaf_linked s parent d row e) (leaf_debt s parent (call_key e.call)) parent
  leaf_path z = elim may.place [
    | inl q ↦ absurd (z q)
    | inr q ↦ record { key = call_key e.call; to_do = refl; way = way_grown parent d (leaf_of row e) s.tree (call_key e.call) parent q.0 }
  ]

  pub leaf_owes : Owing (leaf_linked s parent d row e) debts id (leaf_debt s parent (call_key e.call))
  leaf_owes = owing s (leaf_linked s parent d row e) debts id (leaf_debt s parent (call_key e.call)) debt (record {
    grows = λ n h. (inr h, omega arith);
    others = λ n l q t. (leaf_live n l, λ k w. way_grown parent d (leaf_of row e) s.tree k n w);
    own = own_fits s (leaf_linked s parent d row e) (debts id) (leaf_debt s parent (call_key e.call)) (λ n h. (inr h, omega arith)) (debt.each id) (λ n h. ((leaf_keeps s ok parent d row e may).tree.rows n h).0)
        (λ n x h. elim (noted_back s parent [] n x h) [
          | inl y ↦ inl (y.2, leaf_live n (subst (IsLive s) (sym y.1) (parent_is_live s parent d may.parent_live y.0)), subst (OnPath (leaf_linked s parent d row e) (leaf_debt s parent (call_key e.call))) (sym y.1) (leaf_path y.0))
          | inr y ↦ absurd y
        ])
        (λ n l q o p. absurd (none n o));
    accounts = λ n h. elim (grown_stands parent d (leaf_of row e) s.tree n h) [
      | inl q ↦ inl (subst (IsSettled (leaf_linked s parent d row e)) (sym q) leaf_settled)
      | inr i ↦ dite (ℕ_discrete n parent)
          (λ q. inr (inl (subst (λ (r : ℕ). IsListed r (s.stamp r) (noted s parent [])) (sym q) (noted_here s parent [] (subst (λ (r : ℕ). r ≢ 0) q (not_zero s ok n i))))))
          (λ q. inr (inr (record {
            stands = i;
            stamp = refl;
            settled = settled_same s (leaf_linked s parent d row e) n n refl (λ y. y) (λ x y z. y (sym (leaf_same n x i q) ∙ z)) (λ x. ap (height_at s.height) (leaf_same n x i q));
            owed = λ o. absurd (none n o);
          })))
    ];
    new = λ n h. elim (noted_back s parent [] n (s.stamp n) h) [ inl y ↦ inr (other_free debts id parent n free y.1) | inr y ↦ absurd y ];
    turns = λ n t. cc (t);
  })

-- a copy is linked
module _ (s : State) (debts : ℕ → Debt) (parent : ℕ) (d : Side) (row copy : ℕ) (ok : TableOk s) (debt : DebtOk s debts) (may : MayLinkCopy s parent d row copy) where
  copy_child : s.links parent d ≡ row
  copy_child = sym (true_link s parent d ok may.parent_live may.no_change) ∙ may.child

  row_is : row ≢ 0
  row_is = let p = may.shared.is_row in λ q. omega arith

  shared_stands : Stands row s.tree
  shared_stands = row_stands s ok.tree ok.links parent d row may.parent_live copy_child row_is

  copy_fresh : (n : ℕ) → Stands n s.tree → n ≢ copy
  copy_fresh n h q = may.fresh (subst (λ (x : ℕ). In x s.linked) q (ok.tree.rows n h).0)

  copy_apart : copy ≢ parent
  copy_apart = not_parent may.parent_live
    where
      not_parent : IsParent s parent d → copy ≢ parent
      not_parent (inl q) e = let p = may.is_row in omega (arith, q.0)
      not_parent (inr l) e = copy_fresh parent l.stands (sym e)

  copied : (x : Side) → relink (changed s.links copy (s.link copy)) parent d copy copy x ≡ s.links row x
  copied x = relink_other (changed s.links copy (s.link copy)) parent d copy copy x copy_apart ∙ ap (λ (f : Side → ℕ). f x) (changed_same s.links copy (s.link copy)) ∙ may.links x ∙ plain_word s ok.changes row x shared_stands may.shared

  copy_settled : IsSettled (copy_linked s parent d row copy) copy
  copy_settled = settled_same s (copy_linked s parent d row copy) row copy may.height (λ y z. y (sym may.value ∙ z)) (λ x y z. y (sym (copied x) ∙ z)) (λ x. ap (height_at s.height) (copied x)) (shared_settled s debts row debt shared_stands may.shared)

  height_positive : (c : ℕ) → c ≢ 0 → height_at s.height c ≡ s.height c
  height_positive zero z = absurd (z refl)
  height_positive (suc c) z = refl

  at_parent_link : relink (changed s.links copy (s.link copy)) parent d copy parent d ≡ copy
  at_parent_link = relink_same (changed s.links copy (s.link copy)) parent d copy

  copy_away : (n : ℕ) (x : Side) → Stands n s.tree → ((n ≡ parent) × (x ≡ d) → ⊥)
      → relink (changed s.links copy (s.link copy)) parent d copy n x ≡ s.links n x
  copy_away n x h z = relink_away (changed s.links copy (s.link copy)) parent d copy n x z ∙ ap (λ (f : Side → ℕ). f x) (changed_other s.links copy (s.link copy) n (copy_fresh n h))

  there_link : (n : ℕ) (x : Side) → Stands n s.tree → s.links n x ≢ 0 → relink (changed s.links copy (s.link copy)) parent d copy n x ≢ 0
  there_link n x h y z = elim (same_place n parent x d) [
    | inl q ↦ (let p = may.is_row in let r = ap₂ (relink (changed s.links copy (s.link copy)) parent d copy) q.0 q.1 ∙ at_parent_link in omega arith)
    | inr q ↦ y (sym (copy_away n x h q) ∙ z)
  ]

  there_height : (n : ℕ) (x : Side) → Stands n s.tree → child_height (copy_linked s parent d row copy) n x ≡ child_height s n x
  there_height n x h = elim (same_place n parent x d) [
    | inl q ↦ ap (height_at s.height) (ap₂ (relink (changed s.links copy (s.link copy)) parent d copy) q.0 q.1 ∙ at_parent_link) ∙ height_positive copy (let p = may.is_row in λ z. omega arith)
        ∙ may.height ∙ sym (height_positive row row_is) ∙ ap (height_at s.height) (sym (ap₂ s.links q.0 q.1 ∙ copy_child))
    | inr q ↦ ap (height_at s.height) (copy_away n x h q)
  ]

  live_not_row : (n : ℕ) → IsLive s n → n ≢ row
  live_not_row n l q = l.own (subst (IsShared s) (sym q) may.shared)

  copy_live : (n : ℕ) → IsLive s n → IsLive (copy_linked s parent d row copy) n
  copy_live n l = live_same s (copy_linked s parent d row copy) n refl refl (stands_renamed row copy s.tree n (live_not_row n l) l.stands) l

  pub copy_owes : DebtOk (copy_linked s parent d row copy) debts
  copy_owes = debt_step s (copy_linked s parent d row copy) debts debts 0 (λ j z. refl) debt (record {
    grows = λ n h. (inr h, omega arith);
    others = λ n l q t. (copy_live n l, λ k w. way_renamed row copy s.tree k n (live_not_row n l) w);
    own = own_fits s (copy_linked s parent d row copy) (debts 0) (debts 0) (λ n h. (inr h, omega arith)) (debt.each 0) (λ n h. ((copy_keeps s ok parent d row copy may).tree.rows n h).0)
        (λ n x h. inr h) (λ n l q o p. (copy_live n l, record { key = p.key; to_do = p.to_do; way = way_renamed row copy s.tree p.key n (live_not_row n l) p.way }));
    accounts = λ n h. elim (renamed_stands row copy s.tree n h) [
      | inl q ↦ inl (subst (IsSettled (copy_linked s parent d row copy)) (sym q) copy_settled)
      | inr i ↦ inr (inr (record {
        stands = i.1;
        stamp = refl;
        settled = settled_same s (copy_linked s parent d row copy) n n refl (λ y. y) (λ x y. there_link n x i.1 y) (λ x. there_height n x i.1);
        owed = λ o. inr o;
      }))
    ];
    new = λ n h. inl h;
    turns = λ n t. inl t;
  })

-- a row is unlinked
module _ (s : State) (debts : ℕ → Debt) (id parent : ℕ) (d : Side) (row : ℕ) (ok : TableOk s) (debt : DebtOk s debts) (may : MayMarkUnlinked s parent d row)
    (path : OwesNone s (debts id) ⊎ Aims s (debts id) row ⊎ Aims s (debts id) parent) (free : IsFree debts id parent) where
  unlink_child : s.links parent d ≡ row
  unlink_child = sym (true_link s parent d ok may.parent_live (may.no_change parent d (inl refl))) ∙ may.child

  unlink_row : row ≢ 0
  unlink_row = not_zero s ok row may.live.stands

  unlink_live : (n : ℕ) → n ≢ row → IsLive s n → IsLive (unlinked_marked s parent d row) n
  unlink_live n z l = live_same s (unlinked_marked s parent d row) n refl refl (stands_without row s.tree n z (thin s s.links row s.tree ok.tree.reads (unlink_thin s parent d row ok.changes may may.one_child)) l.stands) l

  unlink_way : (k n : ℕ) → n ≢ row → OnWay s.tree k n → OnWay (without row s.tree) k n
  unlink_way k n z w = way_without row s.tree k n z (thin s s.links row s.tree ok.tree.reads (unlink_thin s parent d row ok.changes may may.one_child)) w

  unlink_grows : (n : ℕ) → In n s.linked → In n s.linked × (s.stamp n ≤ changed s.stamp row (s.stamp row + 1) n)
  unlink_grows n h = (h, stamp_up s row 1 n)

  unlink_stamp : (n : ℕ) → n ≢ row → changed s.stamp row (s.stamp row + 1) n ≡ s.stamp n
  unlink_stamp n z = changed_other s.stamp row (s.stamp row + 1) n z

  unlink_gone : (n : ℕ) → Stands n (without row s.tree) → n ≢ row
  unlink_gone n h q =
      let u = ((unlink_keeps s ok parent d row may).tree.rows n h).1 in
      let e : changed s.stamp row (s.stamp row + 1) n ≡ s.stamp row + 1 = ap (changed s.stamp row (s.stamp row + 1)) q ∙ changed_same s.stamp row (s.stamp row + 1) in
      u (subst IsUnlinked (sym e) (odd (s.stamp row) may.unmarked))
    where
      odd : (x : ℕ) → IsUnmarked x → IsUnlinked (x + 1)
      odd x m = omega arith

  -- what the pass still owes is on the path of the parent's key
  unlink_kept : (n : ℕ) → n ≢ row → Owes s (debts id) n → (parent ≢ 0) × OnWay s.tree (s.key parent) n
  unlink_kept n z o =
      let p = ((debt.each id).owed n o).1 in
      elim path [
        | inl none ↦ absurd (none n o)
        | inr y ↦ (elim y [
          | inl a ↦ (let w = on_path s debts id ok debt (s.key row) n a.1 p in
              let up : parent ≢ 0 = λ e. z (row_to_root s ok parent d row n may.parent_live unlink_child unlink_row e w) in
              (up, row_to_parent s ok parent d row n (parent_is_live s parent d may.parent_live up) unlink_child unlink_row z w))
          | inr a ↦ (a.0, on_path s debts id ok debt (s.key parent) n a.1 p)
        ])
      ]

  unlink_listed : (n x : ℕ) → IsListed n x (aimed s parent (noted s parent (debts id).list)).list
      → (parent ≢ 0) × (n ≡ parent) × (x ≡ s.stamp n) ⊎ IsListed n x (debts id).list
  unlink_listed n x h = noted_back s parent (debts id).list n x (aimed_list s parent (noted s parent (debts id).list) n x h).1

  unlink_path : (n : ℕ) → n ≢ row → parent ≢ 0 → OnWay s.tree (s.key parent) n
      → OnPath (unlinked_marked s parent d row) (aimed s parent (noted s parent (debts id).list)) n
  unlink_path n z y w = record {
    key = s.key parent;
    to_do = aimed_key s parent (noted s parent (debts id).list) y;
    way = unlink_way (s.key parent) n z w;
  }

  parent_apart : (n : ℕ) → n ≡ parent → n ≢ row
  parent_apart n e q = may.apart (sym e ∙ q)

  unlink_lists : Owing (unlinked_marked s parent d row) debts id (aimed s parent (noted s parent (debts id).list))
  unlink_lists = owing s (unlinked_marked s parent d row) debts id (aimed s parent (noted s parent (debts id).list)) debt (record {
    grows = unlink_grows;
    others = λ n l q t. let z = stamp_moves s row 1 n (omega arith) q in (unlink_live n z l, λ k w. unlink_way k n z w);
    own = own_fits s (unlinked_marked s parent d row) (debts id) (aimed s parent (noted s parent (debts id).list)) unlink_grows (debt.each id) (λ n h. ((unlink_keeps s ok parent d row may).tree.rows n h).0)
        (λ n x h. elim (unlink_listed n x h) [
          | inl y ↦ (let z = parent_apart n y.1 in
              let l = parent_is_live s parent d may.parent_live y.0 in
              inl (y.2 ∙ sym (unlink_stamp n z), unlink_live n z (subst (IsLive s) (sym y.1) l), unlink_path n z y.0 (subst (λ (r : ℕ). OnWay s.tree (s.key parent) r) (sym y.1) (own_path s ok parent l))))
          | inr y ↦ inr y
        ])
        (λ n l q o p. let z = stamp_moves s row 1 n (omega arith) q in let k = unlink_kept n z o in (unlink_live n z l, unlink_path n z k.0 k.1));
    accounts = λ n h.
        let z = unlink_gone n h in
        let i = without_stands row s.tree n h in
        dite (ℕ_discrete n parent)
        (λ q. let y : parent ≢ 0 = subst (λ (r : ℕ). r ≢ 0) q (not_zero s ok n i) in
        inr (inl (aimed_there s parent (noted s parent (debts id).list) n (changed s.stamp row (s.stamp row + 1) n) y
        (subst (λ (x : ℕ). IsListed n x (noted s parent (debts id).list)) (sym (unlink_stamp n z)) (subst (λ (r : ℕ). IsListed r (s.stamp r) (noted s parent (debts id).list)) (sym q) (noted_here s parent (debts id).list y))))))
        (λ q. inr (inr (record {
          stands = i;
          stamp = unlink_stamp n z;
          settled = settled_same s (unlinked_marked s parent d row) n n refl (λ y. y) (λ x y w. y (sym (relink_other s.links parent d (only_child s row) n x q) ∙ w)) (λ x. ap (height_at s.height) (relink_other s.links parent d (only_child s row) n x q));
          owed = λ o. inr (aimed_there s parent (noted s parent (debts id).list) n (changed s.stamp row (s.stamp row + 1) n) (unlink_kept n z o).0
              (noted_there s parent (debts id).list n (changed s.stamp row (s.stamp row + 1) n) (subst (λ (x : ℕ). IsListed n x (debts id).list) (sym (unlink_stamp n z)) o)));
        })));
    new = λ n h. elim (unlink_listed n (changed s.stamp row (s.stamp row + 1) n) h) [
      | inl y ↦ inr (other_free debts id parent n free y.1)
      | inr y ↦ inl (owed_back s (unlinked_marked s parent d row) (debts id) n unlink_grows (debt.each id) y).1
    ];
    turns = λ n t. absurd (aimed_turning s parent (noted s parent (debts id).list) n t);
  })

  -- the row is owed no more, since it has left the tree
  unlink_free : Owes (unlinked_marked s parent d row) (aimed s parent (noted s parent (debts id).list)) row → ⊥
  unlink_free o =
      let fits = unlink_lists.each id in
      let mine : DebtFits (unlinked_marked s parent d row) (aimed s parent (noted s parent (debts id).list)) = subst (DebtFits (unlinked_marked s parent d row)) (changed_same debts id (aimed s parent (noted s parent (debts id).list))) fits in
      unlink_gone row (mine.owed row o).0.stands refl

  taken_aim : (n : ℕ) (l : List Mark) → (let u : Debt = aimed s n l in record u { list = taken row u.list }) ≡ aimed s n (taken row l)
  taken_aim zero l = refl
  taken_aim (suc n) l = refl

  pub unlink_owes : Owing (unlinked_marked s parent d row) debts id (aimed s parent (taken row (noted s parent (debts id).list)))
  unlink_owes = subst (λ (u : Debt). DebtOk (unlinked_marked s parent d row) (changed debts id u)) (taken_aim parent (noted s parent (debts id).list))
      (taken_after (unlinked_marked s parent d row) debts id (aimed s parent (noted s parent (debts id).list)) row unlink_lists unlink_free)

-- a row is raised above its parent
module _ (s : State) (debts : ℕ → Debt) (id parent : ℕ) (p : Side) (row : ℕ) (d : Side) (raised : ℕ) (ok : TableOk s) (debt : DebtOk s debts) (may : MayLinkParent s parent p row d raised) (owe : MayOweRaise s debts id parent row raised) where
  abbrev turned_state : State
  turned_state = parent_linked s parent p row d raised

  after_ok : TableOk turned_state
  after_ok = raise_keeps s ok parent p row d raised may

  inner : ℕ → Side → ℕ
  inner = relink (relink s.links row d (s.link row d)) raised (other d) row

  raise_live : (n : ℕ) → IsLive s n → IsLive turned_state n
  raise_live n l = live_same s turned_state n refl refl (stands_rotated row d s.tree n l.stands) l

  raise_row : row ≢ 0
  raise_row = not_zero s ok row may.live.stands

  raise_raised : raised ≢ 0
  raise_raised = not_zero s ok raised may.raised_live.stands

  raised_link : turned_state.links raised (other d) ≡ row
  raised_link = relink_other (relink (relink s.links row d (s.link row d)) raised (other d) row) parent p raised raised (other d) (λ e. may.apart.2 (sym e)) ∙ relink_same (relink s.links row d (s.link row d)) raised (other d) row

  parent_link : turned_state.links parent p ≡ raised
  parent_link = relink_same (relink (relink s.links row d (s.link row d)) raised (other d) row) parent p raised

  raise_same : (n : ℕ) (x : Side) → n ≢ row → n ≢ raised → n ≢ parent → turned_state.links n x ≡ s.links n x
  raise_same n x a b c = relink_other (relink (relink s.links row d (s.link row d)) raised (other d) row) parent p raised n x c ∙ relink_other (relink s.links row d (s.link row d)) raised (other d) row n x b ∙ relink_other s.links row d (s.link row d) n x a

  -- the paths afterwards
  row_way : OnWay turned_state.tree (s.key row) row
  row_way = own_path turned_state after_ok row (raise_live row may.live)

  below_raised : (n : ℕ) → OnWay turned_state.tree (s.key raised) n → OnWay turned_state.tree (s.key row) n
  below_raised n w = parent_to_row turned_state after_ok raised (other d) row n (raise_live raised may.raised_live) raised_link raise_row w

  raised_way : OnWay turned_state.tree (s.key row) raised
  raised_way = below_raised raised (own_path turned_state after_ok raised (raise_live raised may.raised_live))

  parent_way : parent ≢ 0 → OnWay turned_state.tree (s.key row) parent
  parent_way z = let l = raise_live parent (parent_is_live s parent p may.parent_live z) in below_raised parent (parent_to_row turned_state after_ok parent p raised parent l parent_link raise_raised (own_path turned_state after_ok parent l))

  raise_kept : (n : ℕ) → Owes s (debts id) n → OnWay turned_state.tree (s.key row) n
  raise_kept n o = dite (ℕ_discrete n row)
      (λ e. subst (λ (r : ℕ). OnWay turned_state.tree (s.key row) r) (sym e) row_way)
      (λ e. let q = ((debt.each id).owed n o).1 in
      elim owe.to_do [
        | inl t ↦ way_rotated row d 0 (2 ^ 64) s.tree (s.key row) n e ok.tree.ordered (on_path s debts id ok debt (s.key row) n t q)
        | inr t ↦ below_raised n (way_rotated row d 0 (2 ^ 64) s.tree (s.key raised) n e ok.tree.ordered (on_path s debts id ok debt (s.key raised) n t q))
      ])

  -- what is listed
  raise_listed : (n x : ℕ) → IsListed n x (raise_debt s parent row raised (debts id)).list
      → (x ≡ s.stamp n) × IsLive s n × OnWay turned_state.tree (s.key row) n × IsFree debts id n ⊎ IsListed n x (debts id).list
  raise_listed n x h = elim (noted_back s row (noted s raised (noted s parent (debts id).list)) n x h) [
    | inl y ↦ inl (y.2, subst (IsLive s) (sym y.1) may.live, subst (λ (r : ℕ). OnWay turned_state.tree (s.key row) r) (sym y.1) row_way, other_free debts id row n owe.free.0 y.1)
    | inr h ↦ (elim (noted_back s raised (noted s parent (debts id).list) n x h) [
      | inl y ↦ inl (y.2, subst (IsLive s) (sym y.1) may.raised_live, subst (λ (r : ℕ). OnWay turned_state.tree (s.key row) r) (sym y.1) raised_way, other_free debts id raised n owe.free.1 y.1)
      | inr h ↦ (elim (noted_back s parent (debts id).list n x h) [
        | inl y ↦ inl (y.2, subst (IsLive s) (sym y.1) (parent_is_live s parent p may.parent_live y.0), subst (λ (r : ℕ). OnWay turned_state.tree (s.key row) r) (sym y.1) (parent_way y.0), other_free debts id parent n owe.free.2 y.1)
        | inr h ↦ inr h
      ])
    ])
  ]

  pub raise_owes : Owing (parent_linked s parent p row d raised) debts id (raise_debt s parent row raised (debts id))
  raise_owes = owing s turned_state debts id (raise_debt s parent row raised (debts id)) debt (record {
    grows = λ n h. (h, omega arith);
    others = λ n l q t. (raise_live n l, λ k w. way_rotated row d 0 (2 ^ 64) s.tree k n (λ e. t (owe.turning ∙ ap Some (sym e))) ok.tree.ordered w);
    own = own_fits s turned_state (debts id) (raise_debt s parent row raised (debts id)) (λ n h. (h, omega arith)) (debt.each id) (λ n h. (after_ok.tree.rows n h).0)
        (λ n x h. elim (raise_listed n x h) [ inl y ↦ inl (y.0, raise_live n y.1, record { key = s.key row; to_do = refl; way = y.2 }) | inr y ↦ inr y ])
        (λ n l q o e. (raise_live n l, record { key = s.key row; to_do = refl; way = raise_kept n o }));
    accounts = λ n h.
        let i = rotated_stands row d s.tree n h in
        let v = (debts id).list in
        dite (ℕ_discrete n row)
        (λ a. inr (inl (subst (λ (r : ℕ). IsListed r (s.stamp r) (noted s row (noted s raised (noted s parent v)))) (sym a) (noted_here s row (noted s raised (noted s parent v)) raise_row))))
        (λ a. dite (ℕ_discrete n raised)
        (λ b. inr (inl (noted_there s row (noted s raised (noted s parent v)) n (s.stamp n) (subst (λ (r : ℕ). IsListed r (s.stamp r) (noted s raised (noted s parent v))) (sym b) (noted_here s raised (noted s parent v) raise_raised)))))
        (λ b. dite (ℕ_discrete n parent)
        (λ c. inr (inl (noted_there s row (noted s raised (noted s parent v)) n (s.stamp n) (noted_there s raised (noted s parent v) n (s.stamp n) (subst (λ (r : ℕ). IsListed r (s.stamp r) (noted s parent v)) (sym c) (noted_here s parent v (subst (λ (r : ℕ). r ≢ 0) c (not_zero s ok n i))))))))
        (λ c. inr (inr (record {
          stands = i;
          stamp = refl;
          settled = settled_same s turned_state n n refl (λ y. y) (λ x y z. y (sym (raise_same n x a b c) ∙ z)) (λ x. ap (height_at s.height) (raise_same n x a b c));
          owed = λ o. inr (noted_there s row (noted s raised (noted s parent v)) n (s.stamp n) (noted_there s raised (noted s parent v) n (s.stamp n) (noted_there s parent v n (s.stamp n) o)));
        })))));
    new = λ n h. elim (raise_listed n (s.stamp n) h) [ inl y ↦ inr y.3 | inr y ↦ inl y ];
    turns = λ n t. inl (owe.turning ∙ t);
  })
