use Rattle.snap_rule.proofs.Debts.Trees.{leaf_owes as the_leaf_owes}
use Rattle.snap_rule.proofs.owing.leaf_owes.Goals as goal

pub returns : goal.returns
returns c = the_leaf_owes
