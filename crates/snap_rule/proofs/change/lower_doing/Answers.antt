use Rattle.snap_rule.proofs.InChange.{lower_doing as the_lower_doing}
use Rattle.snap_rule.proofs.change.lower_doing.Goals as goal

pub returns : goal.returns
returns c = λ s parent p row d raised ok w. the_lower_doing s parent p row d raised w ok.changes
