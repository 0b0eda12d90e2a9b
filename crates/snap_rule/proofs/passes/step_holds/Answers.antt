use Rattle.snap_rule.proofs.WholeSteps.{step_holds as the_step_holds}
use Rattle.snap_rule.proofs.passes.step_holds.Goals as goal

pub returns : goal.returns
returns c = the_step_holds
