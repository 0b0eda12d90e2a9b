use Rattle.snap_rule.proofs.Evolving.Telling.{unlink_evolves as the_unlink_evolves}
use Rattle.snap_rule.proofs.Table.{unlink_keeps as the_unlink_keeps}
use Rattle.snap_rule.proofs.kinds.unlink_keeps.Goals as goal

pub returns : goal.returns
returns c = λ s parent d row may ok. (the_unlink_evolves s parent d row ok.tree ok.changes may, the_unlink_keeps s ok parent d row may)
