use Rattle.std.proofs.Common.{List, ℕ, map}
use Rattle.std.specs.Prelude.{string_bytes}
use Rattle.std.proofs.lemmas.Result.{IfErr-weaker, IfOk-weaker}
use Rattle.snap_plan.specs.Stops.{stop_of_words}
use Rattle.snap_plan.proofs.Endings.{planned_by, stopped_by, words_stop}
use Rattle.snap_plan.proofs.Stopping.{if_err}
use Rattle.snap_plan.proofs.accepting.accept.Goals as goal

pub returns-in_err-job-clause-stops : goal.returns-in_err-job-clause-stops
returns-in_err-job-clause-stops g c =
    let ws : List (List ℕ) = map string_bytes c.args.words.now in
    if_err _ _ (stop_of_words c.in_err-job.field-0.0) c.from_residual.ensures.1 (words_stop ws _ _ _ c.in_err-job.field-0.0 c.in_err-job.ensures.refused)

pub returns-clause-plan : goal.returns-clause-plan
returns-clause-plan g c =
    let ws : List (List ℕ) = map string_bytes c.args.words.now in
    let files = g.S.Shelf.files c.args.shelf.now in
    IfOk-weaker c.accept_job.result _ _ (λ plan is. planned_by ws files c.in_ok-job.job plan c.in_ok-job.ensures.ok is) c.accept_job.ensures.plan

pub returns-clause-stops : goal.returns-clause-stops
returns-clause-stops g c =
    let ws : List (List ℕ) = map string_bytes c.args.words.now in
    let files = g.S.Shelf.files c.args.shelf.now in
    IfErr-weaker c.accept_job.result _ _ (λ stop stops. stopped_by ws files c.in_ok-job.job _ stop c.in_ok-job.ensures.ok stops) c.accept_job.ensures.stops
