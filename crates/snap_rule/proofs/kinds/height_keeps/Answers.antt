use Rattle.snap_rule.proofs.Evolving.Silent.{height_evolves as the_height_evolves}
use Rattle.snap_rule.proofs.Table.{height_keeps as the_height_keeps}
use Rattle.snap_rule.proofs.kinds.height_keeps.Goals as goal

pub returns : goal.returns
returns c = λ s row x may ok. (the_height_evolves s row x may, the_height_keeps s ok row x)
