use Rattle.snap_rule.proofs.Readers.Ends.{key_differs as proved}
use Rattle.snap_rule.proofs.reader.key_differs.Goals as goal

pub returns : goal.returns
returns c = λ s seen k c w d ok. proved s ok.links seen k c w d
