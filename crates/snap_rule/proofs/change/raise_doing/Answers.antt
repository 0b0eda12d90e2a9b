use Rattle.snap_rule.proofs.InChange.{raise_doing as the_raise_doing}
use Rattle.snap_rule.proofs.change.raise_doing.Goals as goal

pub returns : goal.returns
returns c = the_raise_doing
