use Rattle.snap_rule.proofs.Debts.Kinds.{up_owes as the_up_owes}
use Rattle.snap_rule.proofs.owing.up_owes.Goals as goal

pub returns : goal.returns
returns c = λ s debts id parent d row ok debt may. the_up_owes s debts id ok debt parent d row may
