use Rattle.snap_rule.proofs.Evolving.Telling.{raise_evolves as the_raise_evolves}
use Rattle.snap_rule.proofs.Table.{raise_keeps as the_raise_keeps}
use Rattle.snap_rule.proofs.kinds.raise_keeps.Goals as goal

pub returns : goal.returns
returns c = λ s parent p row d raised may ok. (the_raise_evolves s parent p row d raised ok.tree may, the_raise_keeps s ok parent p row d raised may)
