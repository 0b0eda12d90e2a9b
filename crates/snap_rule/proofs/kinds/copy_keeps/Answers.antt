use Rattle.snap_rule.proofs.Evolving.Telling.{copy_evolves as the_copy_evolves}
use Rattle.snap_rule.proofs.Table.{copy_keeps as the_copy_keeps}
use Rattle.snap_rule.proofs.kinds.copy_keeps.Goals as goal

pub returns : goal.returns
returns c = λ s parent d row copy may ok. (the_copy_evolves s parent d row copy may, the_copy_keeps s ok parent d row copy may)
