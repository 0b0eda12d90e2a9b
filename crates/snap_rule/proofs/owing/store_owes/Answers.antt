use Rattle.snap_rule.proofs.Debts.Kinds.{store_owes as the_store_owes}
use Rattle.snap_rule.proofs.owing.store_owes.Goals as goal

pub returns : goal.returns
returns c = the_store_owes
