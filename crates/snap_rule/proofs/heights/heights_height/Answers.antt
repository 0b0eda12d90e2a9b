use Rattle.snap_rule.proofs.Debts.Heights.{heights_height as the_heights_height}
use Rattle.snap_rule.proofs.heights.heights_height.Goals as goal

pub returns : goal.returns
returns c = the_heights_height
