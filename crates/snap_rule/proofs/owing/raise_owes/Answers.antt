use Rattle.snap_rule.proofs.Debts.Trees.{raise_owes as the_raise_owes}
use Rattle.snap_rule.proofs.owing.raise_owes.Goals as goal

pub returns : goal.returns
returns c = the_raise_owes
