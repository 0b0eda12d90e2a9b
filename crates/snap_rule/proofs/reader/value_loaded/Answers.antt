use Rattle.snap_rule.proofs.Readers.Ends.{value_loaded as proved}
use Rattle.snap_rule.proofs.reader.value_loaded.Goals as goal

pub returns : goal.returns
returns c = proved
