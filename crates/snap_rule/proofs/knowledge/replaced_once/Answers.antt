use Rattle.snap_rule.proofs.Parts.Present.{copy_once}
use Rattle.snap_rule.proofs.knowledge.replaced_once.Goals as goal

pub returns : goal.returns
returns c = λ s ok. (ok.present.gone, λ parent d row copy. copy_once s ok.present ok.tree ok.links ok.changes parent d row copy)
