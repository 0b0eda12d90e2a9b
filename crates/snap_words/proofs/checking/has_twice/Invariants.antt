use Rattle.std.proofs.Common.{◌≡◌, false, take}
use Rattle.snap_words.specs.Outputs.{has_twice}
use Rattle.snap_words.proofs.Outputs.{texts}
use Rattle.snap_words.proofs.checking.has_twice.Given as goal

abbrev pub invariant-loop-place : goal.invariant-loop-place
invariant-loop-place l = has_twice (texts (take l.place l.scripts)) ≡ false
