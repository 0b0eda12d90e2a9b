use Rattle.snap_rule.proofs.Debts.Heights.{child_loaded as the_child_loaded}
use Rattle.snap_rule.proofs.heights.child_loaded.Goals as goal

pub returns : goal.returns
returns c = the_child_loaded
