use Rattle.snap_rule.proofs.Debts.Silent.{absent_silent, lock_silent, header_silent, splice_silent, lower_silent, lift_silent}
use Rattle.snap_rule.proofs.owing.silent_kinds.Goals as goal

pub returns : goal.returns
returns c = (absent_silent, lock_silent, header_silent, splice_silent, lower_silent, lift_silent)
