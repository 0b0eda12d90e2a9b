use Rattle.snap_rule.proofs.Parts.Present.{live_known as the_live_known}
use Rattle.snap_rule.proofs.knowledge.live_known.Goals as goal

pub returns : goal.returns
returns c = λ s n ok. the_live_known s ok.present n
