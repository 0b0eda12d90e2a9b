use Rattle.snap_rule.proofs.Debts.Kinds.{aim_owes as the_aim_owes}
use Rattle.snap_rule.proofs.owing.aim_owes.Goals as goal

pub returns : goal.returns
returns c = λ s debts id row ok debt may. the_aim_owes s debts id ok debt row may
