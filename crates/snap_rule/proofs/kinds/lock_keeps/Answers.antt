use Rattle.snap_rule.proofs.Evolving.Silent.{lock_evolves as the_lock_evolves}
use Rattle.snap_rule.proofs.Table.{lock_keeps as the_lock_keeps}
use Rattle.snap_rule.proofs.kinds.lock_keeps.Goals as goal

pub returns : goal.returns
returns c = λ s row x may ok. (the_lock_evolves s row x may, the_lock_keeps s ok row x)
