use Rattle.snap_text.specs.Verbs.{verb_of}
use Rattle.snap_text.proofs.verb.Verb.of.Goals as goal

pub returns : goal.returns
unfolding verb_of
returns c = c.first_with_word.ensures
