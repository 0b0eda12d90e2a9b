use Rattle.snap_rule.proofs.Quiet.{quiet_loads as proved}
use Rattle.snap_rule.proofs.quiescence.quiet_loads.Goals as goal

pub returns : goal.returns
returns c = proved
