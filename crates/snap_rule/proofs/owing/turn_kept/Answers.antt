use Rattle.snap_rule.proofs.Debts.Turning.{turn_kept as the_turn_kept}
use Rattle.snap_rule.proofs.owing.turn_kept.Goals as goal

pub returns : goal.returns
returns c = the_turn_kept
