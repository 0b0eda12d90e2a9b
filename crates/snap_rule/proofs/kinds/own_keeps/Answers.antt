use Rattle.snap_rule.proofs.Evolving.Silent.{own_evolves as the_own_evolves}
use Rattle.snap_rule.proofs.Table.{own_keeps as the_own_keeps}
use Rattle.snap_rule.proofs.kinds.own_keeps.Goals as goal

pub returns : goal.returns
returns c = λ s row k b h v l may ok. (the_own_evolves s row k b h v l ok.tree may, the_own_keeps s ok row k b h v l may)
