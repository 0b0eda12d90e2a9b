use Rattle.snap_rule.proofs.Evolving.Silent.{clear_evolves as the_clear_evolves}
use Rattle.snap_rule.proofs.Table.{clear_keeps as the_clear_keeps}
use Rattle.snap_rule.proofs.kinds.clear_keeps.Goals as goal

pub returns : goal.returns
returns c = λ s row may ok. (the_clear_evolves s row may, the_clear_keeps s ok row may)
