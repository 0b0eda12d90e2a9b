use Rattle.snap_rule.proofs.Debts.Turns.{shrink_owes as the_shrink_owes}
use Rattle.snap_rule.proofs.owing.shrink_owes.Goals as goal

pub returns : goal.returns
returns c = λ s debts id parent p row d raised key ok debt may owe. the_shrink_owes s debts id parent p row d raised key ok debt owe
