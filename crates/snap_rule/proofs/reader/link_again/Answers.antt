use Rattle.snap_rule.proofs.Readers.Second.{link_again as proved}
use Rattle.snap_rule.proofs.reader.link_again.Goals as goal

pub returns : goal.returns
returns c = λ s seen k n v c w d ok. proved s ok.tree ok.links ok.sharing ok.changes seen k n v c w d
