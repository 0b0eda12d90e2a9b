-- The debts after the kinds of step that store a height or a stamp.
use Rattle.std.proofs.Common.{◌≡◌, ◌≢◌, ℕ, zero, suc, ◌+◌, ◌<◌, ◌≤◌, ◌⊎◌, inl, inr, Option, Some, refl, ap, sym, ◌∙◌, subst, arith}
use native.Mathlib.Decide.{ℕ_discrete}
use mathlib.Core.Logic.{dite}
use Rattle.snap_stamp.specs.declared.side.Side.{Side}
use Rattle.snap_rule.specs.Tree.{Stands, OnWay}
use Rattle.snap_rule.specs.State.{State, In}
use Rattle.snap_rule.specs.Rule.{IsLive, TableOk}
use Rattle.snap_rule.specs.Updates.{changed}
use Rattle.snap_rule.specs.Kinds.Rotation.{shrinking_marked, shrinking_cleared, MayClearShrinking}
use Rattle.snap_rule.specs.Kinds.Words.{height_stored}
use Rattle.snap_rule.specs.Settled.{height_at, child_height, IsSettled}
use Rattle.snap_rule.specs.declared.debt.Debt.{Debt}
use Rattle.snap_rule.specs.Debt.{IsListed, Owes, OnPath, DebtOk}
use Rattle.snap_rule.specs.Debt.Step.{IsFree, DebtStep, Owing}
use Rattle.snap_rule.specs.Debt.Lists.{noted, or_else}
use Rattle.snap_rule.specs.Debt.Kinds.{MayOweHeight, height_debt, MayOweTurn, shrink_debt, clear_debt}
use Rattle.snap_rule.proofs.Updates.{changed_same, changed_other}
use Rattle.snap_rule.proofs.Trees.{row_positive}
use Rattle.snap_rule.proofs.Trees.Ways.{way_with_height}
use Rattle.snap_rule.proofs.Trees.Rows.{stands_with_height, with_height_stands}
use Rattle.snap_rule.proofs.Parts.Tree.{one_link}
use Rattle.snap_rule.proofs.Debts.{settled_same, live_same, owed_back, own_fits, noted_here, noted_there, noted_back}
use Rattle.snap_rule.proofs.Debts.Kinds.{owing, parent_is_live, other_free, parent_to_row, own_path, on_path}

pub height_at_other : (f : ℕ → ℕ) (r h c : ℕ) → c ≢ r → height_at (changed f r h) c ≡ height_at f c
height_at_other f r h zero z = refl
height_at_other f r h (suc c) z = changed_other f r h (suc c) z

pub not_zero : (s : State) (ok : TableOk s) (n : ℕ) → Stands n s.tree → n ≢ 0
not_zero s ok n h = let p = row_positive s s.links s.tree n ok.tree.reads h in λ z. omega arith

-- a height is stored
module _ (s : State) (debts : ℕ → Debt) (id parent : ℕ) (d : Side) (row h : ℕ) (ok : TableOk s) (debt : DebtOk s debts) (may : MayOweHeight s debts id parent d row h) where
  height_live : (n : ℕ) → IsLive s n → IsLive (height_stored s row h) n
  height_live n l = live_same s (height_stored s row h) n refl refl (stands_with_height row h s.tree n l.stands) l

  row_apart : row ≢ 0
  row_apart = not_zero s ok row may.live.stands

  same_height : (n : ℕ) → IsSettled s n → changed s.height row h n ≡ s.height n
  same_height n a = dite (ℕ_discrete n row)
      (λ e. subst (λ (x : ℕ). changed s.height row h x ≡ s.height x) (sym e) (changed_same s.height row h ∙ may.is_height ∙ sym (subst (IsSettled s) e a).0.sum))
      (λ e. changed_other s.height row h n e)

  height_settled : (n : ℕ) → Stands n s.tree → n ≢ parent → IsSettled s n → IsSettled (height_stored s row h) n
  height_settled n i z a = settled_same s (height_stored s row h) n n (same_height n a) (λ y. y) (λ e y. y)
      (λ e. height_at_other s.height row h (s.links n e) (λ q. z (one_link s ok.tree ok.links parent d row may.parent_live may.child row_apart n e i q).0)) a

  kept_to_do : (k : ℕ) → (debts id).to_do ≡ Some k → or_else (debts id).to_do (s.key row) ≡ Some k
  kept_to_do k e = ap (λ (o : Option ℕ). or_else o (s.key row)) e

  parent_path : parent ≢ 0 → OnPath s (height_debt s parent row (debts id)) parent
  parent_path z =
      let l = parent_is_live s parent d may.parent_live z in
      let at_row : OnWay s.tree (s.key row) parent = parent_to_row s ok parent d row parent l may.child row_apart (own_path s ok parent l) in
      elim may.path [
        | inl e ↦ record { key = s.key row; to_do = ap (λ (o : Option ℕ). or_else o (s.key row)) e; way = at_row }
        | inr y ↦ (elim y [
          | inl a ↦ record { key = s.key row; to_do = kept_to_do (s.key row) a.1; way = at_row }
          | inr y ↦ (elim y [
            | inl a ↦ record { key = s.key parent; to_do = kept_to_do (s.key parent) a.1; way = own_path s ok parent l }
            | inr y ↦ (elim y [
              | inl o ↦ (let p = ((debt.each id).owed parent o).1 in record { key = p.key; to_do = kept_to_do p.key p.to_do; way = p.way })
              | inr e ↦ absurd (z e)
            ])
          ])
        ])
      ]

  height_path : (n : ℕ) → OnPath s (height_debt s parent row (debts id)) n → OnPath (height_stored s row h) (height_debt s parent row (debts id)) n
  height_path n p = record { key = p.key; to_do = p.to_do; way = way_with_height row h s.tree p.key n p.way }

  pub height_owes : Owing (height_stored s row h) debts id (height_debt s parent row (debts id))
  height_owes = owing s (height_stored s row h) debts id (height_debt s parent row (debts id)) debt (record {
    grows = λ n i. (i, omega arith);
    others = λ n l q t. (height_live n l, λ k w. way_with_height row h s.tree k n w);
    own = own_fits s (height_stored s row h) (debts id) (height_debt s parent row (debts id)) (λ n i. (i, omega arith)) (debt.each id) (λ n i. (ok.tree.rows n (with_height_stands row h s.tree n i)).0)
        (λ n x i. elim (noted_back s parent (debts id).list n x i) [
          | inl y ↦ inl (y.2, height_live n (subst (IsLive s) (sym y.1) (parent_is_live s parent d may.parent_live y.0)), height_path n (subst (OnPath s (height_debt s parent row (debts id))) (sym y.1) (parent_path y.0)))
          | inr y ↦ inr y
        ])
        (λ n l e o p. (height_live n l, record { key = p.key; to_do = kept_to_do p.key p.to_do; way = way_with_height row h s.tree p.key n p.way }));
    accounts = λ n i. let j = with_height_stands row h s.tree n i in dite (ℕ_discrete n parent)
        (λ e. inr (inl (subst (λ (r : ℕ). IsListed r (s.stamp r) (noted s parent (debts id).list)) (sym e) (noted_here s parent (debts id).list (subst (λ (r : ℕ). r ≢ 0) e (not_zero s ok n j))))))
        (λ e. inr (inr (record { stands = j; stamp = refl; settled = height_settled n j e; owed = λ o. inr (noted_there s parent (debts id).list n (s.stamp n) o) })));
    new = λ n i. elim (noted_back s parent (debts id).list n (s.stamp n) i) [ inl y ↦ inr (other_free debts id parent n may.free y.1) | inr y ↦ inl y ];
    turns = λ n t. inl t;
  })

-- a row's stamp changes, and the pass lists the row
module _ (s s' : State) (debts : ℕ → Debt) (id row : ℕ) (w : Debt) (ok : TableOk s) (debt : DebtOk s debts) (live : IsLive s row) (free : IsFree debts id row)
    (same_tree : s' ≡ record s { stamp = s'.stamp }) (up : s.stamp row < s'.stamp row) (rest : (n : ℕ) → n ≢ row → s'.stamp n ≡ s.stamp n)
    (list : w.list ≡ noted s' row (debts id).list) where
  marked_grows : (n : ℕ) → In n s.linked → In n s'.linked × (s.stamp n ≤ s'.stamp n)
  marked_grows n i = (subst (λ (x : State). In n x.linked) (sym same_tree) i, dite (ℕ_discrete n row) (λ e. let u = subst (λ (r : ℕ). s.stamp r < s'.stamp r) (sym e) up in omega arith) (λ e. let u = rest n e in omega arith))

  marked_live : (n : ℕ) → IsLive s n → IsLive s' n
  marked_live n l = live_same s s' n (ap (λ (x : State). x.birth n) same_tree) (ap (λ (x : State). x.epoch) same_tree) (subst (λ (x : State). Stands n x.tree) (sym same_tree) l.stands) l

  marked_path : (u : Debt) (n : ℕ) → OnPath s u n → OnPath s' u n
  marked_path u n p = record { key = p.key; to_do = p.to_do; way = subst (λ (x : State). OnWay x.tree p.key n) (sym same_tree) p.way }

  marked_settled : (n : ℕ) → IsSettled s n → IsSettled s' n
  marked_settled n a = settled_same s s' n n (ap (λ (x : State). x.height n) same_tree) (λ y. subst (λ (x : State). x.value n ≢ 0) (sym same_tree) y) (λ e y. subst (λ (x : State). x.links n e ≢ 0) (sym same_tree) y) (λ e. ap (λ (x : State). child_height x n e) same_tree) a

  listed : (n x : ℕ) → IsListed n x w.list → (n ≡ row) × (x ≡ s'.stamp n) ⊎ IsListed n x (debts id).list
  listed n x i = elim (noted_back s' row (debts id).list n x (subst (IsListed n x) list i)) [ inl y ↦ inl (y.1, y.2) | inr y ↦ inr y ]

  pub marked_step : OnPath s w row → ((n : ℕ) → Owes s (debts id) n → OnPath s w n) → ((n : ℕ) → w.turning ≡ Some n → n ≡ row)
      → DebtStep s s' debts id w
  marked_step here there turns = record {
    grows = marked_grows;
    others = λ n l q t. (marked_live n l, λ k y. subst (λ (x : State). OnWay x.tree k n) (sym same_tree) y);
    own = own_fits s s' (debts id) w marked_grows (debt.each id) (λ n i. subst (λ (x : State). In n x.linked) (sym same_tree) (ok.tree.rows n (subst (λ (x : State). Stands n x.tree) same_tree i)).0)
        (λ n x i. elim (listed n x i) [ inl y ↦ inl (y.1, marked_live n (subst (IsLive s) (sym y.0) live), marked_path w n (subst (OnPath s w) (sym y.0) here)) | inr y ↦ inr y ])
        (λ n l e o p. (marked_live n l, marked_path w n (there n o)));
    accounts = λ n i. let j : Stands n s.tree = subst (λ (x : State). Stands n x.tree) same_tree i in dite (ℕ_discrete n row)
        (λ e. inr (inl (subst (λ (r : ℕ). IsListed r (s'.stamp r) w.list) (sym e) (subst (IsListed row (s'.stamp row)) (sym list) (noted_here s' row (debts id).list (not_zero s ok row live.stands))))))
        (λ e. inr (inr (record { stands = j; stamp = rest n e; settled = marked_settled n; owed = λ o. inr (subst (IsListed n (s'.stamp n)) (sym list) (noted_there s' row (debts id).list n (s'.stamp n) (subst (λ (x : ℕ). IsListed n x (debts id).list) (sym (rest n e)) o))) })));
    new = λ n i. elim (listed n (s'.stamp n) i) [ inl y ↦ inr (other_free debts id row n free y.0) | inr y ↦ inl (owed_back s s' (debts id) n marked_grows (debt.each id) y).1 ];
    turns = λ n t. inr (let e = turns n t in subst (λ (r : ℕ). s.stamp r < s'.stamp r) (sym e) up);
  }

-- the shrinking mark is set
module _ (s : State) (debts : ℕ → Debt) (id parent : ℕ) (p : Side) (row : ℕ) (d : Side) (raised key : ℕ) (ok : TableOk s) (debt : DebtOk s debts) (may : MayOweTurn s debts id parent p row d raised key) where
  shrink_way : (n : ℕ) → Owes s (debts id) n → OnWay s.tree key n
  shrink_way n o =
      let q = ((debt.each id).owed n o).1 in
      elim may.to_do [
        | inl y ↦ subst (λ (k : ℕ). OnWay s.tree k n) (sym y.0) (elim y.1 [
          | inl none ↦ absurd (none n o)
          | inr a ↦ (elim a [
            | inl a ↦ on_path s debts id ok debt (s.key row) n a.1 q
            | inr a ↦ parent_to_row s ok parent p row n (parent_is_live s parent p may.parent_live a.0) may.child (not_zero s ok row may.live.stands) (on_path s debts id ok debt (s.key parent) n a.1 q)
          ])
        ])
        | inr y ↦ on_path s debts id ok debt key n y.1 q
      ]

  shrink_here : OnWay s.tree key row
  shrink_here = elim may.to_do [
    | inl y ↦ subst (λ (k : ℕ). OnWay s.tree k row) (sym y.0) (own_path s ok row may.live)
    | inr y ↦ subst (λ (k : ℕ). OnWay s.tree k row) (sym y.0) (parent_to_row s ok row d raised row may.live may.raised_child may.is_raised (own_path s ok row may.live))
  ]

  pub shrink_owes : Owing (shrinking_marked s row) debts id (shrink_debt (shrinking_marked s row) row key (debts id))
  shrink_owes = owing s (shrinking_marked s row) debts id (shrink_debt (shrinking_marked s row) row key (debts id)) debt
      (marked_step s (shrinking_marked s row) debts id row (shrink_debt (shrinking_marked s row) row key (debts id)) ok debt may.live may.free refl
      (let e = changed_same s.stamp row (s.stamp row + 2) in omega arith) (λ n z. changed_other s.stamp row (s.stamp row + 2) n z) refl
      (record { key = key; to_do = refl; way = shrink_here }) (λ n o. record { key = key; to_do = refl; way = shrink_way n o }) (λ n t. some_row n t))
    where
      some_row : (n : ℕ) → Some row ≡ Some n → n ≡ row
      some_row n e = cc e

-- and cleared
pub clear_owes : (s : State) (debts : ℕ → Debt) (id row : ℕ) → TableOk s → DebtOk s debts → MayClearShrinking s row → Owes s (debts id) row
    → IsFree debts id row
    → Owing (shrinking_cleared s row) debts id (clear_debt (shrinking_cleared s row) row (debts id))
clear_owes s debts id row ok debt may o free = owing s (shrinking_cleared s row) debts id (clear_debt (shrinking_cleared s row) row (debts id)) debt
    (marked_step s (shrinking_cleared s row) debts id row (clear_debt (shrinking_cleared s row) row (debts id)) ok debt may.live free refl
    (let e = changed_same s.stamp row (s.stamp row + 2) in omega arith) (λ n z. changed_other s.stamp row (s.stamp row + 2) n z) refl
    (path row o) path (λ n t. cc (t)))
  where
    path : (n : ℕ) → Owes s (debts id) n → OnPath s (clear_debt (shrinking_cleared s row) row (debts id)) n
    path n o = let q = ((debt.each id).owed n o).1 in record { key = q.key; to_do = q.to_do; way = q.way }
