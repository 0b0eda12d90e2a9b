use Rattle.std.proofs.Common.{subst}
use Rattle.snap_text.specs.LoadFiles.{HaveFewPairs}
use Rattle.snap_text.proofs.Files.{few_pairs}
use Rattle.snap_text.proofs.loads.Loads.few.Goals as goal

pub returns : goal.returns
returns c = λ file. few_pairs c.args.self.now file (subst HaveFewPairs c.self.view_is c.self.invariant)
