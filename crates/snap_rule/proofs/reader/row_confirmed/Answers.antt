use Rattle.snap_rule.proofs.Readers.Ends.{row_confirmed as proved}
use Rattle.snap_rule.proofs.reader.row_confirmed.Goals as goal

pub returns : goal.returns
returns c = proved
