use Rattle.snap_rule.proofs.InChange.{splice_doing as the_splice_doing}
use Rattle.snap_rule.proofs.change.splice_doing.Goals as goal

pub returns : goal.returns
returns c = the_splice_doing
