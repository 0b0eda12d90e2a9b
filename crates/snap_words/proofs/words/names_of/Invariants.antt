use Rattle.std.proofs.Common.{◌≡◌, take}
use Rattle.snap_words.proofs.Outputs.{texts}
use Rattle.snap_words.proofs.words.names_of.Given as goal

abbrev pub invariant-loop-script : goal.invariant-loop-script
invariant-loop-script l = l.names ≡ texts (take l.script-index l.scripts)
