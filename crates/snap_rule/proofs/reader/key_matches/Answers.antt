use Rattle.snap_rule.proofs.Readers.Ends.{key_matches as proved}
use Rattle.snap_rule.proofs.reader.key_matches.Goals as goal

pub returns : goal.returns
returns c = proved
