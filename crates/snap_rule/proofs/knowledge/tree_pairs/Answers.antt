use Rattle.snap_rule.proofs.Pairs.{tree_pairs as proved}
use Rattle.snap_rule.proofs.knowledge.tree_pairs.Goals as goal

pub returns : goal.returns
returns c = λ s ok. proved s ok.tree
