use Rattle.snap_crew.proofs.Carrying.{is_ok_by}
use Rattle.snap_crew.proofs.scripts.Ran.add.Goals as goal

pub returns-clause-came : goal.returns-clause-came
returns-clause-came c = is_ok_by c.args.done.came c.in_ok-came.field-0 c.in_ok-came.was
