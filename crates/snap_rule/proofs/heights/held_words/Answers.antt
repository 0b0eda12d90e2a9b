use Rattle.snap_rule.proofs.Debts.Heights.{held_words as the_held_words}
use Rattle.snap_rule.proofs.heights.held_words.Goals as goal

pub returns : goal.returns
returns c = the_held_words
