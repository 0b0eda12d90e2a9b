use Rattle.snap_rule.proofs.Debts.Turns.{clear_owes as the_clear_owes}
use Rattle.snap_rule.proofs.owing.clear_owes.Goals as goal

pub returns : goal.returns
returns c = the_clear_owes
