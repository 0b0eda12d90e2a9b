use Rattle.snap_rule.proofs.Debts.Heights.{heights_apart as the_heights_apart}
use Rattle.snap_rule.proofs.heights.heights_apart.Goals as goal

pub returns : goal.returns
returns c = the_heights_apart
