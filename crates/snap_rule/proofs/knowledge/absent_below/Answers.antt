use Rattle.snap_rule.proofs.Table.{absent_below as the_absent_below}
use Rattle.snap_rule.proofs.knowledge.absent_below.Goals as goal

pub returns : goal.returns
returns c = the_absent_below
