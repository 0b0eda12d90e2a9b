use Rattle.snap_rule.proofs.Readers.Kept.{image_kept as the_image_kept}
use Rattle.snap_rule.proofs.knowledge.image_kept.Goals as goal

pub returns : goal.returns
returns c = λ s s' n t ev. the_image_kept s s' ev n t
