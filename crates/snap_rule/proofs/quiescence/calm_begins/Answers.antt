use Rattle.snap_rule.proofs.Calm.{calm_begins as the_calm_begins}
use Rattle.snap_rule.proofs.quiescence.calm_begins.Goals as goal

pub returns : goal.returns
returns c = λ s ok none. the_calm_begins s ok.tree ok.changes none ok.counts.entered
