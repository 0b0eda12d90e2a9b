use Rattle.snap_rule.proofs.Readers.Loads.{stamp_loaded as proved}
use Rattle.snap_rule.proofs.reader.stamp_loaded.Goals as goal

pub returns : goal.returns
returns c = proved
