use Rattle.snap_rule.proofs.Debts.Trees.{copy_owes as the_copy_owes}
use Rattle.snap_rule.proofs.owing.copy_owes.Goals as goal

pub returns : goal.returns
returns c = the_copy_owes
