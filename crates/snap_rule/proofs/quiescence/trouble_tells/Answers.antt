use Rattle.snap_rule.proofs.Calm.{trouble_tells as the_trouble_tells}
use Rattle.snap_rule.proofs.quiescence.trouble_tells.Goals as goal

pub returns : goal.returns
returns c = the_trouble_tells
