use Rattle.snap_rule.proofs.Debts.Silent.{own_silent as the_own_silent}
use Rattle.snap_rule.proofs.owing.own_silent.Goals as goal

pub returns : goal.returns
returns c = the_own_silent
