use Rattle.std.proofs.Common.{List, ℕ}
use Rattle.snap_model.specs.declared.command.Command.{Command}
use Rattle.snap_plan.specs.Walks.{HasNeeds}
use Rattle.snap_plan.proofs.Walking.{HasWalked}
use Rattle.snap_plan.proofs.needs.Walk.take_script.Given as goal

-- the lines so far pass no limit
abbrev pub invariant-loop-line : goal.invariant-loop-line
invariant-loop-line l = (taken : List (List ℕ)) (before : List Command) → HasNeeds taken before l.fn.self → HasWalked taken before l.lines l.line-index l.self
