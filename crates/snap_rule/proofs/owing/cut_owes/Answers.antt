use Rattle.snap_rule.proofs.Debts.Kinds.{cut_owes as the_cut_owes}
use Rattle.snap_rule.proofs.owing.cut_owes.Goals as goal

pub returns : goal.returns
returns c = the_cut_owes
