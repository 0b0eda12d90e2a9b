use Rattle.snap_service.proofs.Using.{if_ok}
use Rattle.snap_crew.proofs.scripts.open_crew.Goals as goal

pub returns : goal.returns
returns c = if_ok c.seated.result _ _ (λ crew h. h c.args.service.now c.in_ok-jobs.ensures.each) c.seated.ensures
