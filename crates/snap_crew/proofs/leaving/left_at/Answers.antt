use Rattle.std.proofs.Common.{List, ap, subst}
use Rattle.snap_prelude.specs.{Known}
use Rattle.snap_service.specs.Prelude.{AreSeated}
use Rattle.snap_crew.specs.declared.leaving.Done.{Done}
use Rattle.snap_crew.proofs.leaving.left_at.Goals as goal

pub returns-clause-done : goal.returns-clause-done
returns-clause-done c = ap (λ (r : List Known). let d : Done = record { receipt = r; full = c.args.seat.desk.full; came = c.args.seat.came } in d) c.finish.ensures.passes

pub returns-clause-seated : goal.returns-clause-seated
returns-clause-seated c = subst (λ (ps : List Known). AreSeated c.args.seat.job.session.tables ps) c.finish.ensures.passes c.finish.ensures.seated
