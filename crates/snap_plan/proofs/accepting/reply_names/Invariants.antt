use Rattle.std.proofs.Common.{◌≡◌, map, take}
use Rattle.snap_words.specs.Outputs.{reply_name}
use Rattle.snap_plan.proofs.accepting.reply_names.Given as goal

abbrev pub invariant-loop-script : goal.invariant-loop-script
invariant-loop-script l = l.names ≡ map reply_name (take l.script-index l.scripts)
