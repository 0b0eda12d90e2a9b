use Rattle.snap_rule.proofs.Quiet.{quiet_begins as proved}
use Rattle.snap_rule.proofs.quiescence.quiet_begins.Goals as goal

pub returns : goal.returns
returns c = λ s ok. proved s ok.counts
