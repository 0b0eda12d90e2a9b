use Rattle.snap_rule.proofs.Evolving.Silent.{splice_evolves as the_splice_evolves}
use Rattle.snap_rule.proofs.Table.{splice_keeps as the_splice_keeps}
use Rattle.snap_rule.proofs.kinds.splice_keeps.Goals as goal

pub returns : goal.returns
returns c = λ s parent d row may ok. (the_splice_evolves s parent d row may, the_splice_keeps s ok parent d row may)
