use Rattle.snap_rule.proofs.Evolving.Silent.{header_evolves as the_header_evolves}
use Rattle.snap_rule.proofs.Table.{header_keeps as the_header_keeps}
use Rattle.snap_rule.proofs.kinds.header_keeps.Goals as goal

pub returns : goal.returns
returns c = λ s g a w may ok. (the_header_evolves s g a w may, the_header_keeps s ok g a w may)
