-- Debts of all seats, once a view has changed, came or was joined.
use Rattle.std.proofs.Common.{Some, ◌≡◌, ◌≢◌, ◌≤◌, ◌∙◌, ◌++◌, ℕ, zero, suc, List, [], ◌∷◌, set, refl, sym, ap, subst}
use lib.ListN.{get_elem?}
use mathlib.Core.Logic.{dite}
use mathlib.Core.Option.{some, some-injective, some-ne-none}
use native.Mathlib.Decide.{ℕ_discrete}
use Rattle.snap_rule.proofs.Debts.Room.{under_room}
use Rattle.snap_rule.proofs.Debts.Silent.{silent_owes}
use Rattle.snap_rule.proofs.Debts.Turning.{debt_doing_kept}
use Rattle.snap_rule.proofs.Updates.{changed_same, changed_other}
use Rattle.snap_rule.specs.Debt.{DebtOk, no_debt, OwesNone, IsListed}
use Rattle.snap_rule.specs.Debt.Step.{IsSilent}
use Rattle.snap_rule.specs.Doing.{Concerns, DoingOk}
use Rattle.snap_rule.specs.Evolves.{Evolves}
use Rattle.snap_rule.specs.Room.{HasRoom}
use Rattle.snap_rule.specs.Rule.{TableOk}
use Rattle.snap_rule.specs.State.{State as Table}
use Rattle.snap_rule.specs.Updates as updates
use Rattle.snap_rule.specs.declared.debt.Debt.{Debt}
use Rattle.snap_steps.specs.Each.{Each}
use Rattle.snap_steps.specs.Rule.Debts.{debts_of, KnowsDebt}
use Rattle.snap_steps.specs.declared.view.View.{View}

pub debts_at : (views : List View) (id : ℕ) (v : View) → get_elem? views id ≡ some v → debts_of views id ≡ v.debt
debts_at [] id v e = absurd (some-ne-none v (sym e))
debts_at (x ∷ xs) zero v e = ap (λ (u : View). u.debt) (some-injective x v e)
debts_at (x ∷ xs) (suc j) v e = debts_at xs j v e

debts_here : (views : List View) (id : ℕ) (v w : View) → get_elem? views id ≡ some v → debts_of (set views id w) id ≡ w.debt
debts_here [] id v w e = absurd (some-ne-none v (sym e))
debts_here (x ∷ xs) zero v w e = refl
debts_here (x ∷ xs) (suc j) v w e = debts_here xs j v w e

debts_else : (views : List View) (id : ℕ) (w : View) (j : ℕ) → j ≢ id → debts_of (set views id w) j ≡ debts_of views j
debts_else [] id w j ne = refl
debts_else (x ∷ xs) zero w zero ne = absurd (ne refl)
debts_else (x ∷ xs) zero w (suc j) ne = refl
debts_else (x ∷ xs) (suc id) w zero ne = refl
debts_else (x ∷ xs) (suc id) w (suc j) ne = debts_else xs id w j (λ e. ne (ap suc e))

pub debts_more : (views : List View) (u : View) → u.debt ≡ no_debt → (j : ℕ) → debts_of (views ++ u ∷ []) j ≡ debts_of views j
debts_more [] u e zero = e
debts_more [] u e (suc j) = refl
debts_more (x ∷ xs) u e zero = refl
debts_more (x ∷ xs) u e (suc j) = debts_more xs u e j

module _ (views : List View) (id : ℕ) (v w : View) (at : get_elem? views id ≡ some v) where
  pub debts_set : (j : ℕ) → debts_of (set views id w) j ≡ updates.changed (debts_of views) id w.debt j
  debts_set j = dite (ℕ_discrete j id)
      (λ e. ap (debts_of (set views id w)) e ∙ debts_here views id v w at ∙ sym (changed_same (debts_of views) id w.debt) ∙ ap (updates.changed (debts_of views) id w.debt) (sym e))
      (λ ne. debts_else views id w j ne ∙ sym (changed_other (debts_of views) id w.debt j ne))

  pub debts_same : w.debt ≡ v.debt → (j : ℕ) → debts_of (set views id w) j ≡ debts_of views j
  debts_same same j = dite (ℕ_discrete j id)
      (λ e. ap (debts_of (set views id w)) e ∙ debts_here views id v w at ∙ same ∙ sym (debts_at views id v at) ∙ ap (debts_of views) (sym e))
      (λ ne. debts_else views id w j ne)

  -- a step with a law of its own
  pub owed_after : (s s' : Table) (next next' rows : ℕ) → Evolves s s' → next ≤ next'
      → (HasRoom s next rows → DebtOk s (debts_of views) → DebtOk s' (updates.changed (debts_of views) id w.debt))
      → (HasRoom s next rows → DebtOk s (debts_of views)) → HasRoom s' next' rows → DebtOk s' (debts_of (set views id w))
  owed_after s s' next next' rows ev le law owing =
      under_room s s' next next' rows (debts_of views) (debts_of (set views id w)) ev le (λ room ok. subst (DebtOk s') (λ i j. sym (debts_set j) i) (law room ok)) owing

  -- a silent step
  pub owed_silent : (s s' : Table) (next next' rows : ℕ) → Evolves s s' → next ≤ next' → IsSilent s s' → w.debt ≡ v.debt
      → (HasRoom s next rows → DebtOk s (debts_of views)) → HasRoom s' next' rows → DebtOk s' (debts_of (set views id w))
  owed_silent s s' next next' rows ev le silent same owing =
      under_room s s' next next' rows (debts_of views) (debts_of (set views id w)) ev le (λ room ok. subst (DebtOk s') (λ i j. sym (debts_same same j) i) (silent_owes s s' (debts_of views) silent ok)) owing

  -- a step by which the table stays
  pub owed_stays : (s : Table) (next rows : ℕ) → w.debt ≡ v.debt → (HasRoom s next rows → DebtOk s (debts_of views)) → HasRoom s next rows → DebtOk s (debts_of (set views id w))
  owed_stays s next rows same owing room = subst (DebtOk s) (λ i j. sym (debts_same same j) i) (owing room)

-- where the debt of a seat stays
pub owed_itself : (views : List View) (id : ℕ) (v : View) → get_elem? views id ≡ some v → (s : Table) → DebtOk s (debts_of views) → DebtOk s (updates.changed (debts_of views) id v.debt)
owed_itself views id v at s ok = subst (DebtOk s) (λ i j. sym (changed_itself j) i) ok
  where
    changed_itself : (j : ℕ) → updates.changed (debts_of views) id v.debt j ≡ debts_of views j
    changed_itself j = dite (ℕ_discrete j id)
        (λ e. ap (updates.changed (debts_of views) id v.debt) e ∙ changed_same (debts_of views) id v.debt ∙ sym (debts_at views id v at) ∙ ap (debts_of views) (sym e))
        (λ ne. changed_other (debts_of views) id v.debt j ne)

-- what passes in a change know of their debts
pub debts_known : (s s' : Table) (views : List View) → TableOk s → Evolves s s' → Each (λ v. DoingOk s v.doing) views
    → ((j : ℕ) (u : View) → get_elem? views j ≡ some u → (n : ℕ) → Concerns u.doing n → s'.stamp n ≡ s.stamp n)
    → Each (KnowsDebt s) views → Each (KnowsDebt s') views
debts_known s s' views ok ev doing stamps h j u at = let p = h j u at in
    (debt_doing_kept s s' ok ev u.doing u.debt (doing j u at) (λ n _ c. stamps j u at n c) p.0, p.1)

-- one view's
pub debt_known : (s s' : Table) (u : View) → TableOk s → Evolves s s' → DoingOk s u.doing
    → ((n : ℕ) → Concerns u.doing n → s'.stamp n ≡ s.stamp n) → KnowsDebt s u → KnowsDebt s' u
debt_known s s' u ok ev doing stamps p = (debt_doing_kept s s' ok ev u.doing u.debt doing (λ n _ c. stamps n c) p.0, p.1)

-- where no pass has a debt none owes
pub debts_none : (s : Table) (views : List View) → ((j : ℕ) (u : View) → get_elem? views j ≡ some u → u.debt ≡ no_debt) → (j : ℕ) → OwesNone s (debts_of views j)
debts_none s [] h j n owes = owes
debts_none s (x ∷ xs) h zero n owes = subst (λ (u : Debt). IsListed n (s.stamp n) u.list) (h 0 x refl) owes
debts_none s (x ∷ xs) h (suc j) n owes = debts_none s xs (λ i. h (suc i)) j n owes

-- a pass turns a row only in a change that names it
pub debts_turning : (views : List View) (j n : ℕ) → (debts_of views j).turning ≡ Some n → (u : View) × (get_elem? views j ≡ some u) × (u.debt.turning ≡ Some n)
debts_turning [] j n e = absurd (cc)
debts_turning (x ∷ xs) zero n e = (x, refl, e)
debts_turning (x ∷ xs) (suc j) n e = debts_turning xs j n e
