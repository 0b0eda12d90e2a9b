use Rattle.snap_rule.proofs.Readers.Ends.{none_confirmed as proved}
use Rattle.snap_rule.proofs.reader.none_confirmed.Goals as goal

pub returns : goal.returns
returns c = proved
