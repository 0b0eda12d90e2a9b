use Rattle.snap_rule.proofs.Opened.{opens as the_opens}
use Rattle.snap_rule.proofs.kinds.opens.Goals as goal

pub returns : goal.returns
returns c = the_opens
