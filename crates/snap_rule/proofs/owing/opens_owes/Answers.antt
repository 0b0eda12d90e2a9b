use Rattle.snap_rule.proofs.Debts.Turning.{opens_owes as the_opens_owes}
use Rattle.snap_rule.proofs.owing.opens_owes.Goals as goal

pub returns : goal.returns
returns c = the_opens_owes
