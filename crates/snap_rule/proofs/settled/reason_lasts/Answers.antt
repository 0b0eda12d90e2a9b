use Rattle.snap_rule.proofs.Debts.Room.{reason_lasts as the_reason_lasts}
use Rattle.snap_rule.proofs.settled.reason_lasts.Goals as goal

pub returns : goal.returns
returns c = the_reason_lasts
