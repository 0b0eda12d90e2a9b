use Rattle.snap_rule.proofs.Evolving.Telling.{store_evolves as the_store_evolves}
use Rattle.snap_rule.proofs.Table.{store_keeps as the_store_keeps}
use Rattle.snap_rule.proofs.kinds.store_keeps.Goals as goal

pub returns : goal.returns
returns c = λ s row e may ok. (the_store_evolves s row e ok.tree may, the_store_keeps s ok row e may)
