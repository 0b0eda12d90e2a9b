use Rattle.snap_rule.proofs.Debts.Examples.{early_stamp as the_early_stamp}
use Rattle.snap_rule.proofs.counterexamples.early_stamp.Goals as goal

pub returns : goal.returns
returns c = the_early_stamp
