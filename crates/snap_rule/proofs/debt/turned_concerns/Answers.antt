use Rattle.snap_rule.proofs.Debts.Turning.{turned_row as proved}
use Rattle.snap_rule.proofs.debt.turned_concerns.Goals as goal

pub returns : goal.returns
returns c = proved
