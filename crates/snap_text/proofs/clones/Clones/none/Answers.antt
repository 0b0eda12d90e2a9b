use Rattle.std.proofs.Common.{refl}
use Rattle.snap_text.specs.Clones.{all_free}
use Rattle.snap_text.proofs.clones.Clones.none.Goals as goal

pub returns : goal.returns
unfolding all_free
returns c = refl
