use Rattle.snap_rule.proofs.Trees.Shallow.{settled_shallow as the_settled_shallow}
use Rattle.snap_rule.proofs.settled.settled_shallow.Goals as goal

pub returns : goal.returns
returns c = the_settled_shallow
