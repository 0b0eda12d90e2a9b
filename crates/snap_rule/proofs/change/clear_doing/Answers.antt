use Rattle.snap_rule.proofs.InChange.{clear_doing as the_clear_doing}
use Rattle.snap_rule.proofs.change.clear_doing.Goals as goal

pub returns : goal.returns
returns c = the_clear_doing
