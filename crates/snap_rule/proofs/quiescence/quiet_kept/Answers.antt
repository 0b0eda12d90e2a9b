use Rattle.snap_rule.proofs.Quiet.{quiet_kept as proved}
use Rattle.snap_rule.proofs.quiescence.quiet_kept.Goals as goal

pub returns : goal.returns
returns c = proved
