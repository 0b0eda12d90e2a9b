use Rattle.snap_rule.proofs.Debts.Turning.{raise_turns as the_raise_turns}
use Rattle.snap_rule.proofs.owing.raise_turns.Goals as goal

pub returns : goal.returns
returns c = the_raise_turns
