use Rattle.snap_rule.proofs.Debts.Kinds.{leave_owes as the_leave_owes}
use Rattle.snap_rule.proofs.owing.leave_owes.Goals as goal

pub returns : goal.returns
returns c = the_leave_owes
