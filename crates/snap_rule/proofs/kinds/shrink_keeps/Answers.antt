use Rattle.snap_rule.proofs.Evolving.Telling.{shrink_evolves as the_shrink_evolves}
use Rattle.snap_rule.proofs.Table.{shrink_keeps as the_shrink_keeps}
use Rattle.snap_rule.proofs.kinds.shrink_keeps.Goals as goal

pub returns : goal.returns
returns c = λ s row may ok. (the_shrink_evolves s row may, the_shrink_keeps s ok row may)
