use Rattle.snap_rule.proofs.Evolving.Telling.{cut_evolves as the_cut_evolves}
use Rattle.snap_rule.proofs.Table.{cut_keeps as the_cut_keeps}
use Rattle.snap_rule.proofs.kinds.cut_keeps.Goals as goal

pub returns : goal.returns
returns c = λ s may ok. (the_cut_evolves s ok.tree ok.links ok.changes may, the_cut_keeps s ok may)
