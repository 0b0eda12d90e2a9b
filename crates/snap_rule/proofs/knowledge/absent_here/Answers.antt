use Rattle.snap_rule.proofs.Table.{absent_here as the_absent_here}
use Rattle.snap_rule.proofs.knowledge.absent_here.Goals as goal

pub returns : goal.returns
returns c = the_absent_here
