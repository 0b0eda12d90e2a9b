use Rattle.snap_rule.proofs.Pairs.{find_at as proved}
use Rattle.snap_rule.proofs.knowledge.find_at.Goals as goal

pub returns : goal.returns
returns c = λ t low high k h. proved low high k t h
