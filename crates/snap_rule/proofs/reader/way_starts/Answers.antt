use Rattle.snap_rule.proofs.Readers.Loads.{way_starts as proved}
use Rattle.snap_rule.proofs.reader.way_starts.Goals as goal

pub returns : goal.returns
returns c = proved
