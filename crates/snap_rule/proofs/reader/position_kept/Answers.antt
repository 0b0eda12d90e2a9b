use Rattle.snap_rule.proofs.Readers.Kept.{position_kept as proved}
use Rattle.snap_rule.proofs.reader.position_kept.Goals as goal

pub returns : goal.returns
returns c = λ s s' seen k n v ev. proved s s' ev seen k n v
