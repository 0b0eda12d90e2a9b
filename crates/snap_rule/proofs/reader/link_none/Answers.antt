use Rattle.snap_rule.proofs.Readers.Loads.{link_none as proved}
use Rattle.snap_rule.proofs.reader.link_none.Goals as goal

pub returns : goal.returns
returns c = λ s seen k n v d ok. proved s ok.tree ok.links ok.changes seen k n v d
