-- What the step of one pass does to the debts of all. The stepping pass accounts for each row of
-- the new tree; to the others it leaves what they owe on their paths.
use Rattle.std.specs.Prelude.{Some, ℕ, ◌<◌, ◌≡◌, ◌≢◌, ◌≤◌, ◌⊎◌}
use Rattle.snap_rule.specs.Debt.{DebtFits, DebtOk, Owes}
use Rattle.snap_rule.specs.Rule.{IsLive}
use Rattle.snap_rule.specs.Settled.{IsSettled}
use Rattle.snap_rule.specs.State.{In, IsShared, State}
use Rattle.snap_rule.specs.Tree.{OnWay, Stands}
use Rattle.snap_rule.specs.Updates.{changed}
use Rattle.snap_rule.specs.declared.debt.Debt.{Debt}

-- what the step of a pass with debt v leaves to the others: a live row that keeps its stamp, and
-- isn't the one that the pass is lowering, stays live and on each of its paths
abbrev pub DebtEvolves : State → State → Debt → Type 0
DebtEvolves s s' v = (n : ℕ) → IsLive s n → s'.stamp n ≡ s.stamp n → v.turning ≢ Some n
    → IsLive s' n × ((k : ℕ) → OnWay s.tree k n → OnWay s'.tree k n)

-- no other pass than id is lowering the row
abbrev pub IsFree : (ℕ → Debt) → ℕ → ℕ → Type 0
IsFree debts id n = (j : ℕ) → j ≢ id → (debts j).turning ≢ Some n

-- a row of both trees that keeps its stamp, stays settled, and if it was owed is settled or owed
-- again
pub record Stays (s s' : State) (v w : Debt) (n : ℕ) : Type 0 where
  pub stands : Stands n s.tree
  pub stamp : s'.stamp n ≡ s.stamp n
  pub settled : IsSettled s n → IsSettled s' n
  pub owed : Owes s v n → IsSettled s' n ⊎ Owes s' w n

-- a step of pass id, after which its debt is w. What it owes newly is free, and what it is lowering
-- newly has a new stamp
pub record DebtStep (s s' : State) (debts : ℕ → Debt) (id : ℕ) (w : Debt) : Type 0 where
  pub grows : (n : ℕ) → In n s.linked → In n s'.linked × (s.stamp n ≤ s'.stamp n)
  pub others : DebtEvolves s s' (debts id)
  pub own : DebtFits s' w
  pub accounts : (n : ℕ) → Stands n s'.tree
      → IsSettled s' n ⊎ Owes s' w n ⊎ Stays s s' (debts id) w n
  pub new : (n : ℕ) → Owes s' w n → Owes s (debts id) n ⊎ IsFree debts id n
  pub turns : (n : ℕ) → w.turning ≡ Some n
      → ((debts id).turning ≡ Some n) ⊎ (s.stamp n < s'.stamp n)

-- the debts are right after a step of pass id, after which its debt is w
abbrev pub Owing : State → (ℕ → Debt) → ℕ → Debt → Type 0
Owing s' debts id w = DebtOk s' (changed debts id w)

-- a silent step, by which no debt changes: tree and stamps stay, and no row becomes shared or
-- unsettled
pub record IsSilent (s s' : State) : Type 0 where
  pub linked : (n : ℕ) → In n s.linked → In n s'.linked
  pub stamp : (n : ℕ) → s'.stamp n ≡ s.stamp n
  pub tree : s'.tree ≡ s.tree
  pub live : (n : ℕ) → IsLive s n → ¬ IsShared s' n
  pub settled : (n : ℕ) → Stands n s.tree → IsSettled s n → IsSettled s' n
