use Rattle.snap_rule.proofs.Readers.Kept.{reader_kept as proved}
use Rattle.snap_rule.proofs.reader.reader_kept.Goals as goal

pub returns : goal.returns
returns c = λ s s' seen k t ev. proved s s' ev seen k t
