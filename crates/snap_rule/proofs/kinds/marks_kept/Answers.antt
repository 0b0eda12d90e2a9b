use Rattle.snap_rule.proofs.Marks.{marks_kept as proved}
use Rattle.snap_rule.proofs.kinds.marks_kept.Goals as goal

pub returns : goal.returns
returns c = proved
