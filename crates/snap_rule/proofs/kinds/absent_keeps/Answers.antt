use Rattle.snap_rule.proofs.Table.{absent_evolves as the_absent_evolves, absent_keeps as the_absent_keeps}
use Rattle.snap_rule.proofs.kinds.absent_keeps.Goals as goal

pub returns : goal.returns
returns c = λ s e may ok. (the_absent_evolves s e, the_absent_keeps s e ok may)
