use Rattle.snap_rule.proofs.InChange.{doing_kept as the_doing_kept}
use Rattle.snap_rule.proofs.change.doing_kept.Goals as goal

pub returns : goal.returns
returns c = the_doing_kept
