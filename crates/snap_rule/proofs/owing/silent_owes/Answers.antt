use Rattle.snap_rule.proofs.Debts.Silent.{silent_owes as the_silent_owes}
use Rattle.snap_rule.proofs.owing.silent_owes.Goals as goal

pub returns : goal.returns
returns c = the_silent_owes
