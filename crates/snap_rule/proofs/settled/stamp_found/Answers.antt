use Rattle.snap_rule.proofs.Debts.Room.{stamp_found as the_stamp_found}
use Rattle.snap_rule.proofs.settled.stamp_found.Goals as goal

pub returns : goal.returns
returns c = the_stamp_found
