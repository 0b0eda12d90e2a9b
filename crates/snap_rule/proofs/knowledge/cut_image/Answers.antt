use Rattle.snap_rule.proofs.Evolving.Telling.{cut_image as the_cut_image}
use Rattle.snap_rule.proofs.knowledge.cut_image.Goals as goal

pub returns : goal.returns
returns c = λ s ok may. (the_cut_image s ok.tree ok.links ok.changes may, ok.tree.ordered, ok.tree.tells)
