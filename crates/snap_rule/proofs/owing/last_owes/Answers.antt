use Rattle.snap_rule.proofs.Debts.Kinds.{last_owes as the_last_owes}
use Rattle.snap_rule.proofs.owing.last_owes.Goals as goal

pub returns : goal.returns
returns c = λ s debts id row debt settled only. the_last_owes s debts id debt row settled only
