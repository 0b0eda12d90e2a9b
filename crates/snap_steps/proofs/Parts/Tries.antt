-- Calls that never wait, once the table has evolved.
use Rattle.std.proofs.Common.{List}
use Rattle.snap_rule.proofs.WholeSteps.{trying_kept}
use Rattle.snap_rule.specs.Evolves.{Evolves}
use Rattle.snap_rule.specs.State.{State as Table}
use Rattle.snap_steps.specs.Each.{Each}
use Rattle.snap_steps.specs.Rule.Tries.{KnowsTry}
use Rattle.snap_steps.specs.declared.view.View.{View}

pub tries_evolve : (s s' : Table) (views : List View) → Evolves s s' → Each (KnowsTry s) views → Each (KnowsTry s') views
tries_evolve s s' views ev h j u at = trying_kept s s' ev u.tries (h j u at)
