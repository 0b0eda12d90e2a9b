use Rattle.snap_rule.proofs.Readers.Loads.{link_found as proved}
use Rattle.snap_rule.proofs.reader.link_found.Goals as goal

pub returns : goal.returns
returns c = λ s seen k n v c d ok. proved s ok.tree ok.links ok.changes seen k n v c d
