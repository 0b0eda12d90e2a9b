use Rattle.snap_rule.proofs.Debts.Turns.{height_owes as the_height_owes}
use Rattle.snap_rule.proofs.owing.height_owes.Goals as goal

pub returns : goal.returns
returns c = the_height_owes
