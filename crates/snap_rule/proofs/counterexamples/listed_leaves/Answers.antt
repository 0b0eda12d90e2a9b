use Rattle.snap_rule.proofs.Debts.Examples.{listed_leaves as the_listed_leaves}
use Rattle.snap_rule.proofs.counterexamples.listed_leaves.Goals as goal

pub returns : goal.returns
returns c = the_listed_leaves
