use Rattle.snap_made.proofs.Generated.{IsMade}
use Rattle.snap_made.proofs.generating.make_script.Given as goal

abbrev pub invariant-loop-drawn : goal.invariant-loop-drawn
invariant-loop-drawn l = IsMade l.seed l.workers l.worker l.drawn l.script l.number
