use Rattle.snap_rule.proofs.Debts.Room.{room_before as the_room_before}
use Rattle.snap_rule.proofs.settled.room_before.Goals as goal

pub returns : goal.returns
returns c = the_room_before
