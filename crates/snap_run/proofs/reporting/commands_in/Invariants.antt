use Rattle.std.proofs.Common.{◌≡◌, take}
use Rattle.snap_run.specs.Reports.{lines_in}
use Rattle.snap_run.proofs.reporting.commands_in.Given as goal

abbrev pub invariant-loop-script : goal.invariant-loop-script
invariant-loop-script l = l.commands ≡ lines_in (take l.script-index l.scripts)
