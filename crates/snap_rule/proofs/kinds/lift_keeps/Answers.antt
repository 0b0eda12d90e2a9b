use Rattle.snap_rule.proofs.Evolving.Silent.{lift_evolves as the_lift_evolves}
use Rattle.snap_rule.proofs.Table.{lift_keeps as the_lift_keeps}
use Rattle.snap_rule.proofs.kinds.lift_keeps.Goals as goal

pub returns : goal.returns
returns c = λ s row d raised may ok. (the_lift_evolves s row d raised may, the_lift_keeps s ok row d raised may)
