use Rattle.snap_plan.proofs.Walking.{HasLeft}
use Rattle.snap_plan.proofs.needs.needs_of.Given as goal

-- the scripts so far pass no limit
abbrev pub invariant-loop-place : goal.invariant-loop-place
invariant-loop-place l = HasLeft l.taken l.names l.scripts l.place l.walk
