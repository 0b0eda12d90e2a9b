use Rattle.snap_rule.proofs.Debts.Heights.{loaded_settled as the_loaded_settled}
use Rattle.snap_rule.proofs.heights.loaded_settled.Goals as goal

pub returns : goal.returns
returns c = the_loaded_settled
