use Rattle.snap_rule.proofs.Examples.{leaves_way}
use Rattle.snap_rule.proofs.counterexamples.lowered_leaves.Goals as goal

pub returns : goal.returns
returns c = leaves_way
