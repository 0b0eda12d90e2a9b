use Rattle.snap_rule.proofs.InChange.{shrink_doing as the_shrink_doing}
use Rattle.snap_rule.proofs.change.shrink_doing.Goals as goal

pub returns : goal.returns
returns c = the_shrink_doing
