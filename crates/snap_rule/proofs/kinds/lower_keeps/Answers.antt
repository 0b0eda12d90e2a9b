use Rattle.snap_rule.proofs.Evolving.Silent.{lower_evolves as the_lower_evolves}
use Rattle.snap_rule.proofs.Table.{lower_keeps as the_lower_keeps}
use Rattle.snap_rule.proofs.kinds.lower_keeps.Goals as goal

pub returns : goal.returns
returns c = λ s row d raised may ok. (the_lower_evolves s row d raised may, the_lower_keeps s ok row d raised may)
