use Rattle.snap_steps.specs.Drawing.{IsDrawing}
use Rattle.snap_steps.proofs.draws.draw.Given as goal

abbrev pub invariant-loop : goal.invariant-loop
invariant-loop g l =
    (goal.iterator-loop g).can_next l.iterator' × (goal.iterator-loop g).is_finite l.iterator' × IsDrawing l.rows.rows l.fn.pass l.pass l.found
