use Rattle.snap_rule.proofs.Debts.Settling.{all_settled as the_all_settled}
use Rattle.snap_rule.proofs.settled.all_settled.Goals as goal

pub returns : goal.returns
returns c = the_all_settled
