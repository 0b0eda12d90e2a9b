use Rattle.snap_rule.proofs.Calm.{calm_row as the_calm_row}
use Rattle.snap_rule.proofs.quiescence.calm_goes_on.Goals as goal

pub returns : goal.returns
returns c = λ s ended low high c z h e. let r = the_calm_row s low high c z (h e) in (r.unmarked, r.above, r.below, r.on_left, r.on_right)
