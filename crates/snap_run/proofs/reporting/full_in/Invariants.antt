use Rattle.std.proofs.Common.{◌≡◌, take}
use Rattle.snap_run.specs.Reports.{fulls_in}
use Rattle.snap_run.proofs.reporting.full_in.Given as goal

abbrev pub invariant-loop-one : goal.invariant-loop-one
invariant-loop-one l = l.full ≡ fulls_in (take l.one-index l.fulls)
