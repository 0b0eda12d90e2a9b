use Rattle.std.proofs.Common.{◌≡◌, List, ℕ, take}
use Rattle.std.specs.BTreeSet.{contains_text}
use Rattle.snap_plan.specs.Needs.{among}
use Rattle.snap_plan.proofs.needs.Taken.of.Given as goal

abbrev pub invariant-loop-file : goal.invariant-loop-file
invariant-loop-file l = (name : List ℕ) → contains_text l.taken.names name ≡ among (take l.file-index l.files) name
