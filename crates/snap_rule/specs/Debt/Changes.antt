-- What a pass in a change knows of its debt. In a rotation it is lowering a row and owes it, and up
-- to `link_parent` its to-do key is the row's or the raised row's. This holds whether there is room
-- or not.
use Rattle.std.specs.Prelude.{None, Some, ℕ, ◌≡◌, ◌⊎◌}
use Rattle.snap_rule.specs.Debt.{Owes}
use Rattle.snap_rule.specs.State.{State}
use Rattle.snap_rule.specs.declared.change.Doing.{Doing}
use Rattle.snap_rule.specs.declared.change.Doing.TheVariants.{Lifted, Lowered, Nothing, Shrunk, Turned, Unlinked}
use Rattle.snap_rule.specs.declared.debt.Debt.{Debt}

pub record Turning (s : State) (v : Debt) (row : ℕ) : Type 0 where
  pub turning : v.turning ≡ Some row
  pub owes : Owes s v row

abbrev pub AimsAtTurn : State → Debt → (row raised : ℕ) → Type 0
AimsAtTurn s v row raised = (v.to_do ≡ Some (s.key row)) ⊎ (v.to_do ≡ Some (s.key raised))

abbrev pub DebtDoing : State → Doing → Debt → Type 0
DebtDoing s Nothing v = v.turning ≡ None
DebtDoing s (Unlinked parent d row only) v = v.turning ≡ None
DebtDoing s (Shrunk parent p row d raised) v = Turning s v row × AimsAtTurn s v row raised
DebtDoing s (Lowered parent p row d raised) v = Turning s v row × AimsAtTurn s v row raised
DebtDoing s (Lifted parent p row d raised) v = Turning s v row × AimsAtTurn s v row raised
DebtDoing s (Turned row) v = Turning s v row
