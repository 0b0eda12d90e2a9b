use Rattle.snap_rule.proofs.Evolving.Silent.{leaf_evolves as the_leaf_evolves}
use Rattle.snap_rule.proofs.Table.{leaf_keeps as the_leaf_keeps}
use Rattle.snap_rule.proofs.kinds.leaf_keeps.Goals as goal

pub returns : goal.returns
returns c = λ s parent d row e may ok. (the_leaf_evolves s parent d row e may, the_leaf_keeps s ok parent d row e may)
