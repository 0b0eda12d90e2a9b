-- Repair debt. A pass in a write may leave rows unsettled for a while, and then owes them a repair:
-- it has a list of rows, each with a stamp, and a to-do key. It owes a listed row as long as the
-- row has the listed stamp; what it owes stands on the path of its to-do key. So no row is
-- forgotten, and no other pass can take an owed row off that path unseen.
pub mod Lists
pub mod Step
pub mod Kinds
pub mod Changes
use Rattle.std.specs.Prelude.{List, None, Some, [], ℕ, ◌∷◌, ◌≡◌, ◌≤◌, ◌⊎◌}
use Rattle.snap_rule.specs.Rule.{IsLive}
use Rattle.snap_rule.specs.Settled.{IsSettled}
use Rattle.snap_rule.specs.State.{In, State}
use Rattle.snap_rule.specs.Tree.{OnWay, Stands}
use Rattle.snap_rule.specs.declared.debt.Debt.{Debt}
use Rattle.snap_rule.specs.declared.debt.Mark.{Mark}

-- a pass in no write, or with nothing left to do
abbrev pub no_debt : Debt
no_debt = record { to_do = None; list = []; turning = None }

-- row n is listed with stamp x
abbrev pub mark : ℕ → ℕ → Mark
mark n x = record { row = n; stamp = x }

abbrev pub IsListed : ℕ → ℕ → List Mark → Type 0
IsListed n x l = In (mark n x) l

-- the pass with this debt owes row n
abbrev pub Owes : State → Debt → ℕ → Type 0
Owes s u n = IsListed n (s.stamp n) u.list

abbrev pub OwesNone : State → Debt → Type 0
OwesNone s u = (n : ℕ) → ¬ Owes s u n

-- row n stands on the path of the to-do key
pub record OnPath (s : State) (u : Debt) (n : ℕ) : Type 0 where
  pub key : ℕ
  pub to_do : u.to_do ≡ Some key
  pub way : OnWay s.tree key n

-- the debt of one pass: listed stamps are of the past, and what is owed is live and on the path of
-- the to-do key
pub record DebtFits (s : State) (u : Debt) : Type 0 where
  pub past : (n x : ℕ) → IsListed n x u.list → In n s.linked × (x ≤ s.stamp n)
  pub owed : (n : ℕ) → Owes s u n → IsLive s n × OnPath s u n

pub record IsOwed (s : State) (debts : ℕ → Debt) (n : ℕ) : Type 0 where
  pub pass : ℕ
  pub owes : Owes s (debts pass) n

-- the debts of all passes, by their numbers: each row of the tree is settled or owed, each debt
-- fits, and a row that one pass is lowering is owed by no other
pub record DebtOk (s : State) (debts : ℕ → Debt) : Type 0 where
  pub settled : (n : ℕ) → Stands n s.tree → IsSettled s n ⊎ IsOwed s debts n
  pub each : (j : ℕ) → DebtFits s (debts j)
  pub alone : (i j n : ℕ) → (debts j).turning ≡ Some n → Owes s (debts i) n → i ≡ j
