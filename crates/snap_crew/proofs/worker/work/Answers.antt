use Rattle.std.proofs.Common.{[]}
use Rattle.snap_crew.proofs.Sitting.{keeps_more}
use Rattle.snap_crew.specs.Prelude.{script_commands}
use Rattle.snap_crew.proofs.worker.work.Goals as goal

pub returns-clause-keeps : goal.returns-clause-keeps
returns-clause-keeps g c = keeps_more (script_commands c.args.seat.now.job.script.now) c.args.seat.now.desk c.answer_all.new.seat.desk c.finish.new.self [] (λ names all. tt) c.answer_all.ensures.keeps c.finish.ensures.goes_on c.finish.ensures.none
