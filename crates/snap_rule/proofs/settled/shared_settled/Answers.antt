use Rattle.snap_rule.proofs.Debts.Kinds.{shared_settled as the_shared_settled}
use Rattle.snap_rule.proofs.settled.shared_settled.Goals as goal

pub returns : goal.returns
returns c = the_shared_settled
