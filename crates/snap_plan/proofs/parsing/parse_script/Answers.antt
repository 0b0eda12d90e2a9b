use Rattle.snap_plan.proofs.Few.{text_fits}
use Rattle.snap_plan.proofs.parsing.parse_script.Goals as goal

pub returns-in-Ok-clause-fits : goal.returns-in-Ok-clause-fits
returns-in-Ok-clause-fits c = text_fits c.deref.result.now c.in-Ok.lines c.in-Ok.ensures.ok c.in-Ok.ensures.uses c.in-Ok.ensures.in_range
