use Rattle.snap_rule.proofs.Debts.Settling.{cut_cause as the_cut_cause}
use Rattle.snap_rule.proofs.settled.cut_cause.Goals as goal

pub returns : goal.returns
returns c = the_cut_cause
