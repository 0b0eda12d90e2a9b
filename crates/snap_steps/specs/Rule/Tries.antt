-- The part of the rule on calls that never wait.
use Rattle.snap_rule.specs.State.{State as Table}
use Rattle.snap_rule.specs.Views.{TryingOk}
use Rattle.snap_steps.specs.declared.view.View.{View}

-- what the pass knows of writes in progress since its call began
abbrev pub KnowsTry : Table → View → Type 0
KnowsTry s v = TryingOk s v.tries
