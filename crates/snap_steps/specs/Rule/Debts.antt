-- The part of the rule on repair debt: as long as there is room, each row of the tree is settled or
-- owed by a pass.
use Rattle.std.specs.Prelude.{◌≡◌, ℕ, zero, suc, List, [], ◌∷◌}
use Rattle.snap_rule.specs.Debt.{no_debt}
use Rattle.snap_rule.specs.Debt.Changes.{DebtDoing}
use Rattle.snap_rule.specs.State.{State as Table}
use Rattle.snap_rule.specs.declared.debt.Debt.{Debt}
use Rattle.snap_steps.specs.Stages.{in_write}
use Rattle.snap_steps.specs.declared.view.View.{View}

-- the debts of all seats, by their places
abbrev pub debts_of : List View → ℕ → Debt
debts_of [] j = no_debt
debts_of (v ∷ vs) zero = v.debt
debts_of (v ∷ vs) (suc j) = debts_of vs j

-- what a pass in a change knows of its debt. Outside a write it has none
abbrev pub KnowsDebt : Table → View → Type 0
KnowsDebt s v = DebtDoing s v.doing v.debt × (in_write v.stage ≡ 0 → v.debt ≡ no_debt)
