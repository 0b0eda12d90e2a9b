-- What a step leaves of the debt in its pass's view, by words that the pass knows.
use Rattle.std.specs.Prelude.{◌≡◌, ◌≤◌, ◌⊎◌, ℕ, zero, suc, List, ◌∷◌, Some, None, Option, true}
use Rattle.snap_rule.specs.Debt.{mark, no_debt}
use Rattle.snap_rule.specs.declared.debt.Debt.{Debt}
use Rattle.snap_rule.specs.declared.debt.Mark.{Mark}
use Rattle.snap_steps.specs.declared.view.View.{View}

-- the row is listed with this stamp. Row 0 never is
abbrev pub listing : ℕ → ℕ → List Mark → List Mark
listing zero x l = l
listing (suc n) x l = mark (suc n) x ∷ l

-- the to-do key comes to be that of the row. At row 0 nothing is left to do
abbrev pub aimed_at : ℕ → ℕ → List Mark → Debt
aimed_at zero key l = no_debt
aimed_at (suc n) key l = record { to_do = Some key; list = l; turning = None }

-- that key
abbrev pub to_do_at : ℕ → ℕ → Option ℕ
to_do_at zero key = None
to_do_at (suc n) key = Some key

-- the pass has loaded a word that shows why rows may be left unsettled: every row was handed out,
-- or a stamp is at its greatest count
abbrev pub KnowsReason : View → Type 0
KnowsReason v = (v.rows ≤ v.noted.handed) ⊎ (v.noted.worn ≡ true)

-- nothing is owed, or there is such a reason
abbrev pub OwesNothing : View → Type 0
OwesNothing v = (v.debt ≡ no_debt) ⊎ KnowsReason v
