use Rattle.snap_plan.proofs.Endings.{made_for}
use Rattle.snap_plan.proofs.accepting.accept_job.Goals as goal

pub returns-in_ok-make_plan-in-Made-clause-asked : goal.returns-in_ok-make_plan-in-Made-clause-asked
returns-in_ok-make_plan-in-Made-clause-asked g c = made_for c.args.job _ _ _ c.in_ok-make_plan-in-Made.field-0 c.in-Made.is c.in_ok-make_plan-in-Made.ensures.plan
