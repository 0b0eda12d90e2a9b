use Rattle.snap_rule.proofs.Debts.Turning.{debt_doing_kept as proved}
use Rattle.snap_rule.proofs.debt.debt_doing_kept.Goals as goal

pub returns : goal.returns
returns c = λ s s' g v ok ev. proved s s' ok ev g v
