use Rattle.snap_crew.specs.Prelude.{script_commands}
use Rattle.snap_crew.proofs.Sitting.{IsAtDesk}
use Rattle.snap_crew.proofs.worker.answer_all.Given as goal

-- the commands so far were run
abbrev pub invariant-loop-line : goal.invariant-loop-line
invariant-loop-line g l = IsAtDesk l.loads l.fn.seat.job.who (script_commands l.fn.seat.job.script.now) l.line-index l.fn.seat.job.session l.seat.job.session l.fn.seat.desk l.seat.desk
