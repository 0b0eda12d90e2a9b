use Rattle.snap_rule.proofs.InChange.{lift_doing as the_lift_doing}
use Rattle.snap_rule.proofs.change.lift_doing.Goals as goal

pub returns : goal.returns
returns c = the_lift_doing
