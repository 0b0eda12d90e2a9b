use Rattle.snap_rule.proofs.Calm.{calm_kept as the_calm_kept}
use Rattle.snap_rule.proofs.quiescence.calm_kept.Goals as goal

pub returns : goal.returns
returns c = the_calm_kept
