-- The debts after the kinds of step that change no link of the tree.
use Rattle.std.proofs.Common.{◌≡◌, ◌≢◌, ℕ, ◌^◌, ◌⊎◌, inl, inr, [], Option, Some, None, refl, ap, ap₂, sym, ◌∙◌, subst, arith}
use native.Mathlib.Decide.{ℕ_discrete}
use mathlib.Core.Logic.{dite}
use Rattle.snap_model.specs.declared.call.Entry.{Entry}
use Rattle.snap_model.specs.History.{call_key, call_value}
use Rattle.snap_stamp.specs.declared.side.Side.{Side}
use Rattle.snap_rule.specs.Tree.{Tree, Stands, OnWay, value_word, root}
use Rattle.snap_rule.specs.Tree.Tree.{empty, node}
use Rattle.snap_rule.specs.State.{State, In, IsShared, Represents}
use Rattle.snap_rule.specs.Rule.{IsLive, TableOk, IsParent}
use Rattle.snap_rule.specs.Updates.{changed}
use Rattle.snap_rule.specs.Kinds.Entries.{value_stored, MayStoreValue}
use Rattle.snap_rule.specs.Kinds.Clones.{cut}
use Rattle.snap_rule.specs.Settled.{IsSettled}
use Rattle.snap_rule.specs.declared.debt.Debt.{Debt}
use Rattle.snap_rule.specs.Debt.{no_debt, Owes, OwesNone, OnPath, DebtFits, DebtOk}
use Rattle.snap_rule.specs.Debt.Step.{DebtEvolves, IsFree, DebtStep, Owing}
use Rattle.snap_rule.specs.Debt.Lists.{taken, aimed}
use Rattle.snap_rule.specs.Debt.Kinds.{stored_debt, MayPassUp, AimsBeyond, MayAim}
use Rattle.snap_rule.proofs.Updates.{changed_same, changed_other, changed_again}
use Rattle.snap_rule.proofs.Trees.{own_way, row_positive, each_at}
use Rattle.snap_rule.proofs.Trees.Ways.{way_with_value}
use Rattle.snap_rule.proofs.Trees.Rows.{stands_with_value, with_value_stands}
use Rattle.snap_rule.proofs.Readers.Second.{shared_part}
use Rattle.snap_rule.proofs.Trees.Paths.{way_top, way_down, way_up, way_stop, Beyond}
use Rattle.snap_rule.proofs.Debts.{settled_same, live_same, debt_step, own_fits, none_fits, noted_here, noted_back, taken_back, taken_there, aimed_list, aimed_there, aimed_key, aimed_turning}

-- the debt of one pass is another
pub owing : (s s' : State) (debts : ℕ → Debt) (id : ℕ) (w : Debt) → DebtOk s debts → DebtStep s s' debts id w → Owing s' debts id w
owing s s' debts id w ok step = debt_step s s' debts (changed debts id w) id (λ j z. changed_other debts id w j z) ok (subst (DebtStep s s' debts id) (sym (changed_same debts id w)) step)

-- a parent that isn't row 0
pub parent_is_live : (s : State) (n : ℕ) (d : Side) → IsParent s n d → n ≢ 0 → IsLive s n
parent_is_live s n d (inl q) z = absurd (z q.0)
parent_is_live s n d (inr l) z = l

pub other_free : (debts : ℕ → Debt) (id m n : ℕ) → IsFree debts id m → n ≡ m → IsFree debts id n
other_free debts id m n f e = subst (IsFree debts id) (sym e) f

-- a value is stored
module _ (s : State) (debts : ℕ → Debt) (id row : ℕ) (e : Entry) (ok : TableOk s) (debt : DebtOk s debts) (may : MayStoreValue s row e) (free : IsFree debts id row) where
  store_live : (n : ℕ) → IsLive s n → IsLive (value_stored s row e) n
  store_live n l = live_same s (value_stored s row e) n refl refl (stands_with_value row (call_value e.call) s.tree n l.stands) l

  store_settled : (n : ℕ) → (n ≡ row → value_word (call_value e.call) ≢ 0) → IsSettled s n → IsSettled (value_stored s row e) n
  store_settled n f = settled_same s (value_stored s row e) n n refl (λ z. dite (ℕ_discrete n row)
      (λ q. λ y. f q (sym (changed_same s.value row (value_word (call_value e.call))) ∙ ap (changed s.value row (value_word (call_value e.call))) (sym q) ∙ y))
      (λ q. λ y. z (sym (changed_other s.value row (value_word (call_value e.call)) n q) ∙ y))) (λ d z. z) (λ d. refl)

  store_path : (v : Debt) (n : ℕ) → OnPath s v n → OnPath (value_stored s row e) v n
  store_path v n p = record { key = p.key; to_do = p.to_do; way = way_with_value row (call_value e.call) s.tree p.key n p.way }

  store_others : DebtEvolves s (value_stored s row e) (debts id)
  store_others n l q t = (store_live n l, λ k w. way_with_value row (call_value e.call) s.tree k n w)

  store_step : (o : Option ℕ) → call_value e.call ≡ o → (call_value e.call ≡ None → OwesNone s (debts id))
      → DebtStep s (value_stored s row e) debts id (stored_debt s row (call_key e.call) o (debts id))
  store_step None q none =
      let w : Debt = stored_debt s row (call_key e.call) None (debts id) in
      record {
        grows = λ n h. (h, omega arith);
        others = store_others;
        own = own_fits s (value_stored s row e) (debts id) w (λ n h. (h, omega arith)) (debt.each id) (λ n h. (ok.tree.rows n (with_value_stands row (call_value e.call) s.tree n h)).0)
            (λ n x h. elim (noted_back s row [] n x h) [
              | inl y ↦ inl (y.2, store_live n (subst (IsLive s) (sym y.1) may.live), record { key = call_key e.call; to_do = refl; way = way_with_value row (call_value e.call) s.tree (call_key e.call) n (subst (λ (r : ℕ). OnWay s.tree (call_key e.call) r) (sym y.1) (subst (λ (k : ℕ). OnWay s.tree k row) may.key (own_way s s.links 0 (2 ^ 64) s.tree row ok.tree.ordered ok.tree.reads may.live.stands))) })
              | inr y ↦ absurd y
            ])
            (λ n l i o p. absurd (none q n o));
        accounts = λ n h. dite (ℕ_discrete n row)
            (λ y. inr (inl (subst (λ (r : ℕ). Owes s w r) (sym y) (noted_here s row [] (let p = row_positive s s.links s.tree row ok.tree.reads may.live.stands in λ z. omega arith)))))
            (λ y. inr (inr (record { stands = with_value_stands row (call_value e.call) s.tree n h; stamp = refl; settled = store_settled n (λ z. absurd (y z)); owed = λ o. absurd (none q n o) })));
        new = λ n h. elim (noted_back s row [] n (s.stamp n) h) [ inl y ↦ inr (other_free debts id row n free y.1) | inr y ↦ absurd y ];
        turns = λ n t. cc (t);
      }
  store_step (Some x) q none = record {
    grows = λ n h. (h, omega arith);
    others = store_others;
    own = own_fits s (value_stored s row e) (debts id) (debts id) (λ n h. (h, omega arith)) (debt.each id) (λ n h. (ok.tree.rows n (with_value_stands row (call_value e.call) s.tree n h)).0)
        (λ n x h. inr h) (λ n l i o p. (store_live n l, store_path (debts id) n p));
    accounts = λ n h. inr (inr (record { stands = with_value_stands row (call_value e.call) s.tree n h; stamp = refl; settled = store_settled n (λ z y. (let g : value_word (Some x) ≡ 0 = sym (ap value_word q) ∙ y in omega arith)); owed = λ o. inr o }));
    new = λ n h. inl h;
    turns = λ n t. inl t;
  }

  pub store_owes : (call_value e.call ≡ None → OwesNone s (debts id))
      → Owing (value_stored s row e) debts id (stored_debt s row (call_key e.call) (call_value e.call) (debts id))
  store_owes none = owing s (value_stored s row e) debts id (stored_debt s row (call_key e.call) (call_value e.call) (debts id)) debt (store_step (call_value e.call) refl none)

-- the cut
pub cut_owes : (s : State) (debts : ℕ → Debt) → DebtOk s debts → ((j : ℕ) → OwesNone s (debts j)) → DebtOk (cut s) debts
cut_owes s debts ok none = record {
  settled = λ n h. elim (ok.settled n h) [ inl a ↦ inl a | inr o ↦ absurd (none o.pass n o.owes) ];
  each = λ j. record { past = (ok.each j).past; owed = λ n h. absurd (none j n h) };
  alone = ok.alone;
}

pub shared_settled : (s : State) (debts : ℕ → Debt) (n : ℕ) → DebtOk s debts → Stands n s.tree → IsShared s n → IsSettled s n
shared_settled s debts n ok h u = elim (ok.settled n h) [ inl a ↦ a | inr o ↦ absurd (((ok.each o.pass).owed n o.owes).0.own u) ]

-- steps that change the debt alone
module _ (s : State) (debts : ℕ → Debt) (id : ℕ) (debt : DebtOk s debts) where
  same_step : (w : Debt) → DebtFits s w → ((n : ℕ) → Owes s w n → Owes s (debts id) n) → ((n : ℕ) → w.turning ≡ Some n → (debts id).turning ≡ Some n)
      → ((n : ℕ) → Stands n s.tree → Owes s (debts id) n → IsSettled s n ⊎ Owes s w n) → Owing s debts id w
  same_step w fits back turns covers = owing s s debts id w debt (record {
    grows = λ n h. (h, omega arith);
    others = λ n l q t. (l, λ k x. x);
    own = fits;
    accounts = λ n h. inr (inr (record { stands = h; stamp = refl; settled = λ a. a; owed = λ y. covers n h y }));
    new = λ n h. inl (back n h);
    turns = λ n t. inl (turns n t);
  })

  pub leave_owes : OwesNone s (debts id) → Owing s debts id no_debt
  leave_owes none = same_step no_debt (none_fits s) (λ n h. absurd h) (λ n t. cc (t)) (λ n h o. absurd (none n o))

  -- what is owed is one row, which is settled
  pub last_owes : (row : ℕ) → IsSettled s row → ((n : ℕ) → Owes s (debts id) n → n ≡ row) → Owing s debts id no_debt
  last_owes row settled only = same_step no_debt (none_fits s) (λ n h. absurd h) (λ n t. cc (t)) (λ n h o. inl (subst (IsSettled s) (sym (only n o)) settled))

  -- a row that isn't owed is taken off the list
  taken_fits : (w : Debt) (row : ℕ) → DebtFits s w → DebtFits s (record w { list = taken row w.list })
  taken_fits w row fits = record {
    past = λ n x h. fits.past n x (taken_back row w.list n x h).1;
    owed = λ n h. let o = fits.owed n (taken_back row w.list n (s.stamp n) h).1 in (o.0, record { key = o.1.key; to_do = o.1.to_do; way = o.1.way });
  }

  pub taken_owes : (row : ℕ) → (Owes s (debts id) row → ⊥) → Owing s debts id (record (debts id) { list = taken row (debts id).list })
  taken_owes row free = same_step (record (debts id) { list = taken row (debts id).list }) (taken_fits (debts id) row (debt.each id))
      (λ n h. (taken_back row (debts id).list n (s.stamp n) h).1)
      (λ n t. t)
      (λ n h o. inr (taken_there row (debts id).list n (s.stamp n) (λ e. free (subst (Owes s (debts id)) e o)) o))

-- and once the debt of the pass has been changed already
pub taken_after : (s : State) (debts : ℕ → Debt) (id : ℕ) (w : Debt) (row : ℕ) → Owing s debts id w → (Owes s w row → ⊥) → Owing s debts id (record w { list = taken row w.list })
taken_after s debts id w row ok free =
    let there : changed debts id w id ≡ w = changed_same debts id w in
    subst (DebtOk s) (changed_again debts id w (record w { list = taken row w.list }))
    (subst (λ (u : Debt). DebtOk s (changed (changed debts id w) id (record u { list = taken row u.list }))) there
    (taken_owes s (changed debts id w) id ok row (λ o. free (subst (λ (u : Debt). Owes s u row) there o))))

-- paths to a row and to its parent
module _ (s : State) (ok : TableOk s) where
  pub row_to_root : (parent : ℕ) (d : Side) (row n : ℕ) → IsParent s parent d → s.links parent d ≡ row → row ≢ 0 → parent ≡ 0
      → OnWay s.tree (s.key row) n
      → n ≡ row
  row_to_root parent d row n (inl q) c z e w = let t : row ≡ root s.tree = sym c ∙ ap₂ s.links q.0 q.1 ∙ ok.tree.root in way_top s s.links s.tree n ok.tree.reads (subst (λ (x : ℕ). OnWay s.tree (s.key x) n) t w) ∙ sym t
  row_to_root parent d row n (inr l) c z e w = let p = row_positive s s.links s.tree parent ok.tree.reads l.stands in absurd (omega arith)

  pub row_to_parent : (parent : ℕ) (d : Side) (row n : ℕ) → IsLive s parent → s.links parent d ≡ row → row ≢ 0 → n ≢ row → OnWay s.tree (s.key row) n
      → OnWay s.tree (s.key parent) n
  row_to_parent parent d row n l c z y w = way_up s s.links 0 (2 ^ 64) s.tree parent d n ok.tree.ordered ok.tree.reads l.stands (λ q. z (sym c ∙ q)) (λ q. y (q ∙ c)) (subst (λ (x : ℕ). OnWay s.tree (s.key x) n) (sym c) w)

  pub parent_to_row : (parent : ℕ) (d : Side) (row n : ℕ) → IsLive s parent → s.links parent d ≡ row → row ≢ 0 → OnWay s.tree (s.key parent) n
      → OnWay s.tree (s.key row) n
  parent_to_row parent d row n l c z w = subst (λ (x : ℕ). OnWay s.tree (s.key x) n) c (way_down s s.links 0 (2 ^ 64) s.tree parent d n ok.tree.ordered ok.tree.reads l.stands (λ q. z (sym c ∙ q)) w)

  pub own_path : (n : ℕ) → IsLive s n → OnWay s.tree (s.key n) n
  own_path n l = own_way s s.links 0 (2 ^ 64) s.tree n ok.tree.ordered ok.tree.reads l.stands

-- the to-do key moves along the path
module _ (s : State) (debts : ℕ → Debt) (id : ℕ) (ok : TableOk s) (debt : DebtOk s debts) where
  key_of : (a b : ℕ) (o : Option ℕ) → o ≡ Some a → o ≡ Some b → a ≡ b
  key_of a b o p q = some_same (sym p ∙ q)
    where
      some_same : Some a ≡ Some b → a ≡ b
      some_same e = cc e

  -- a path of the old key is one of the new one
  pub on_path : (a : ℕ) (n : ℕ) → (debts id).to_do ≡ Some a → OnPath s (debts id) n → OnWay s.tree a n
  on_path a n e p = subst (λ (k : ℕ). OnWay s.tree k n) (key_of p.key a (debts id).to_do p.to_do e) p.way

  -- pass_up
  up_fits : (parent : ℕ) (d : Side) (row : ℕ) → MayPassUp s (debts id) parent d row → DebtFits s (aimed s parent (taken row (debts id).list))
  up_fits parent d row may = record {
    past = λ n x h. (debt.each id).past n x (taken_back row (debts id).list n x (aimed_list s parent (taken row (debts id).list) n x h).1).1;
    owed = λ n h.
        let a = aimed_list s parent (taken row (debts id).list) n (s.stamp n) h in
        let b = taken_back row (debts id).list n (s.stamp n) a.1 in
        let o = (debt.each id).owed n b.1 in
        (o.0, record { key = s.key parent; to_do = aimed_key s parent (taken row (debts id).list) a.0; way = row_to_parent s ok parent d row n (parent_is_live s parent d may.parent_live a.0) may.child may.is_row b.0 (on_path (s.key row) n may.to_do o.1) });
  }

  pub up_owes : (parent : ℕ) (d : Side) (row : ℕ) → MayPassUp s (debts id) parent d row
      → Owing s debts id (aimed s parent (taken row (debts id).list))
  up_owes parent d row may = same_step s debts id debt (aimed s parent (taken row (debts id).list)) (up_fits parent d row may)
      (λ n h. (taken_back row (debts id).list n (s.stamp n) (aimed_list s parent (taken row (debts id).list) n (s.stamp n) h).1).1)
      (λ n t. absurd (aimed_turning s parent (taken row (debts id).list) n t))
      (λ n h o. dite (ℕ_discrete n row)
      (λ e. inl (subst (IsSettled s) (sym e) may.settled))
      (λ e. dite (ℕ_discrete parent 0)
      (λ z. absurd (e (row_to_root s ok parent d row n may.parent_live may.child may.is_row z (on_path (s.key row) n may.to_do ((debt.each id).owed n o).1))))
      (λ z. inr (aimed_there s parent (taken row (debts id).list) n (s.stamp n) z (taken_there row (debts id).list n (s.stamp n) e o)))))

  -- aim
  aim_step : (row : ℕ) → ((n : ℕ) → Owes s (debts id) n → (row ≢ 0) × OnWay s.tree (s.key row) n) → Owing s debts id (aimed s row (debts id).list)
  aim_step row f = same_step s debts id debt (aimed s row (debts id).list)
      (record {
        past = λ n x h. (debt.each id).past n x (aimed_list s row (debts id).list n x h).1;
        owed = λ n h.
            let a = aimed_list s row (debts id).list n (s.stamp n) h in
            (((debt.each id).owed n a.1).0, record { key = s.key row; to_do = aimed_key s row (debts id).list a.0; way = (f n a.1).1 });
      })
      (λ n h. (aimed_list s row (debts id).list n (s.stamp n) h).1)
      (λ n t. absurd (aimed_turning s row (debts id).list n t))
      (λ n h o. inr (aimed_there s row (debts id).list n (s.stamp n) (f n o).0 o))

  -- what is below a shared row isn't live
  beyond_shared : (c n : ℕ) → IsShared s c → Beyond s s.links s.tree c n → ¬ IsLive s n
  beyond_shared c n u b l =
      let p = shared_part s ok.tree ok.links ok.sharing ok.changes b.part b.reads b.stands (λ z. subst (IsShared s) b.top u) in
      l.own (each_at (λ r. In r s.linked × IsShared s r) b.part n p.1 b.is_in).1

  beyond_ends : (c n : ℕ) → (c ≡ 0) ⊎ IsShared s c → Beyond s s.links s.tree c n → ¬ IsLive s n
  beyond_ends c n (inr u) b = beyond_shared c n u b
  beyond_ends c n (inl z) b = λ l. empty_part b.part (sym b.top ∙ z) b.reads b.is_in
    where
      empty_part : (t : Tree) → root t ≡ 0 → Represents s s.links t → Stands n t → ⊥
      empty_part empty e v h = h
      empty_part (node m x y) e v h = let p = v.0.is_row in absurd (omega arith)

  beyond_keeps : (row : ℕ) (u : AimsBeyond s (debts id) row) (n : ℕ) → Owes s (debts id) n → (row ≢ 0) × OnWay s.tree (s.key row) n
  beyond_keeps row u n o =
      let f = (debt.each id).owed n o in
      let w : OnWay s.tree u.key n = on_path u.key n u.to_do f.1 in
      elim u.faces [
        | inl z ↦ absurd (beyond_ends (s.links row u.side) n u.ends (record { part = s.tree; top = ap₂ s.links z.0 z.1 ∙ ok.tree.root; reads = ok.tree.reads; stands = λ r h. h; is_in = f.0.stands }) f.0)
        | inr t ↦ (
          t.0,
          elim u.place [
            | inl z ↦ absurd (t.0 z)
            | inr p ↦ (elim (way_stop s s.links 0 (2 ^ 64) s.tree u.key row u.side n ok.tree.ordered ok.tree.reads p t.1 w) [ inl y ↦ y | inr b ↦ absurd (beyond_ends (s.links row u.side) n u.ends b f.0) ])
          ],
        )
      ]

  pub aim_owes : (row : ℕ) → MayAim s (debts id) row → Owing s debts id (aimed s row (debts id).list)
  aim_owes row (inl a) = aim_step row (λ n o. (a.0, on_path (s.key row) n a.1 ((debt.each id).owed n o).1))
  aim_owes row (inr (inl u)) = aim_step row (beyond_keeps row u)
  aim_owes row (inr (inr u)) = aim_step row (λ n o. (u.is_row, parent_to_row s ok u.parent u.side row n u.live u.child u.is_row (on_path (s.key u.parent) n u.to_do ((debt.each id).owed n o).1)))
