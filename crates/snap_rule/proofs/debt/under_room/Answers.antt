use Rattle.snap_rule.proofs.Debts.Room.{under_room as the_under_room}
use Rattle.snap_rule.proofs.debt.under_room.Goals as goal

pub returns : goal.returns
returns c = the_under_room
