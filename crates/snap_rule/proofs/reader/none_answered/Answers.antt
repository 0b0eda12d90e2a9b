use Rattle.snap_rule.proofs.Readers.Ends.{none_answered as proved}
use Rattle.snap_rule.proofs.reader.none_answered.Goals as goal

pub returns : goal.returns
returns c = proved
