use Rattle.snap_rule.proofs.Debts.Trees.{unlink_owes as the_unlink_owes}
use Rattle.snap_rule.proofs.owing.unlink_owes.Goals as goal

pub returns : goal.returns
returns c = the_unlink_owes
