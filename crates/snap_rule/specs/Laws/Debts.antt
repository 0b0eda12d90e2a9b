-- Debts in general: one law for a step, and what follows from the debts of all passes.
use Rattle.std.specs.Prelude.{Some, ℕ, ◌≡◌, ◌≢◌, ◌≤◌}
use Rattle.snap_rule.specs.Debt.{DebtFits, DebtOk, Owes}
use Rattle.snap_rule.specs.Debt.Changes.{DebtDoing}
use Rattle.snap_rule.specs.Debt.Step.{DebtEvolves, DebtStep}
use Rattle.snap_rule.specs.Doing.{Concerns, DoingOk}
use Rattle.snap_rule.specs.Evolves.{Evolves}
use Rattle.snap_rule.specs.Room.{HasRoom}
use Rattle.snap_rule.specs.Rule.{TableOk}
use Rattle.snap_rule.specs.State.{In, State}
use Rattle.snap_rule.specs.declared.change.Doing.{Doing}
use Rattle.snap_rule.specs.declared.debt.Debt.{Debt}

-- one law for a step: where the stepping pass accounts for the new tree, the debts are right
-- afterwards
abbrev pub DebtSteps : Type 0
DebtSteps = (s s' : State) (debts debts' : ℕ → Debt) (id : ℕ)
    → ((j : ℕ) → j ≢ id → debts' j ≡ debts j) → DebtOk s debts → DebtStep s s' debts id (debts' id)
    → DebtOk s' debts'

-- debts are spoken of only while there is room, so a law under room before the step is enough
abbrev pub UnderRoom : Type 0
UnderRoom = (s s' : State) (next next' rows : ℕ) (debts debts' : ℕ → Debt) → Evolves s s'
    → next ≤ next' → (HasRoom s next rows → DebtOk s debts → DebtOk s' debts')
    → (HasRoom s next rows → DebtOk s debts) → HasRoom s' next' rows → DebtOk s' debts'

-- what a step leaves to another pass keeps that pass's debt: the rows that it owes stay live and on
-- its path
abbrev pub FitsKept : Type 0
FitsKept = (s s' : State) (v u : Debt)
    → ((m : ℕ) → In m s.linked → In m s'.linked × (s.stamp m ≤ s'.stamp m)) → DebtEvolves s s' v
    → ((n : ℕ) → v.turning ≡ Some n → ¬ Owes s u n) → DebtFits s u → DebtFits s' u

-- a pass is lowering only a row of its change, which it holds
abbrev pub TurnedConcerns : Type 0
TurnedConcerns =
    (s : State) (g : Doing) (v : Debt) (n : ℕ) → DebtDoing s g v → v.turning ≡ Some n → Concerns g n

-- a step that keeps the stamps of a change's rows keeps what its pass knows of its debt
abbrev pub DebtDoingKept : Type 0
DebtDoingKept = (s s' : State) (g : Doing) (v : Debt) → TableOk s → Evolves s s' → DoingOk s g
    → ((n : ℕ) → In n s.linked → Concerns g n → s'.stamp n ≡ s.stamp n) → DebtDoing s g v
    → DebtDoing s' g v
