use Rattle.snap_rule.proofs.Debts.{debt_step as the_debt_step}
use Rattle.snap_rule.proofs.debt.debt_steps.Goals as goal

pub returns : goal.returns
returns c = the_debt_step
