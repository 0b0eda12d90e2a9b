-- The whole of a plan that was carried out.
use Rattle.snap_prelude.proofs.Common.{option_to_list}
use Rattle.std.proofs.Common.{◌≡◌, ◌≤◌, ℕ, Bool, List, [], ◌++◌, Option, None, Result, sym, ◌∙◌, ap, subst, arith, ◌≢◌, ◌<◌, IfErr, IfSome, OnErr, OnOk, is_some, length, slice_index_or, unwrap_or}
use Rattle.snap_fits.specs.Fits.{Fits}
use Rattle.snap_io.specs.Prelude.{Changes, Files, Rose}
use Rattle.snap_text.specs.declared.script.Line.{Line}
use Rattle.snap_service.specs.Prelude.{fronts_of}
use Rattle.snap_crew.specs.Prelude.{Answered, answers_in, IsAfter, IsFinished, IsTrue}
use Rattle.snap_crew.specs.declared.scripts.Finished.{Finished}
use Rattle.snap_plan.specs.{Needs.all_commands, Needs.exports_named, Runnable.files_written, Runnable.IsRunnable}
use Rattle.snap_plan.specs.{declared.plan.Plan.Plan}
use Rattle.snap_write.specs.Outputs.{HasBegun, HasWritten, IsUnwritten, blank}
use Rattle.snap_write.specs.declared.unwritten.Unwritten.{Unwritten}
use Rattle.snap_run.specs.{Files.last_in, Files.run_outputs, Files.setting_for, Outcomes.IsCarried, Outcomes.Leaves}
use Rattle.snap_run.specs.{Outcomes.OnlyWorkers, Printed.fulls, Printed.summary, Reports.fulls_in, Reports.IsReported}
use Rattle.snap_run.specs.{Reports.summary_in, Worlds.World, declared.outcome.Outcome.Outcome}
use Rattle.snap_run.proofs.{Carried.a_worker_each, Carried.fit, Carried.fulls_are, Carried.only_workers}
use Rattle.snap_run.proofs.{Carried.outs_are, Carried.text_are, Carried.told, Pairs.Differ, Pairs.differ_left}
use Rattle.snap_run.proofs.{Pairs.new_differ, Settled.leaves, Settled.settled, Told.told_fits, Told.told_ran}

pub replies_differ : (plan : Plan) → IsRunnable plan → Differ (unwrap_or plan.replies [])
replies_differ plan runs = differ_left (unwrap_or plan.replies []) (exports_named (all_commands plan.scripts) ++ option_to_list plan.last) (new_differ (files_written plan) runs.written)

-- what the task's scripts came to is what the plan's came to
pub fin_of : (plan : Plan) (bs : List Answered) (f : Finished) (tables : List (List ℕ)) (scripts : List (List Line)) (last : Bool) → scripts ≡ plan.scripts → tables ≡ plan.tables → last ≡ is_some plan.last
    → IsFinished tables plan.rows plan.loads scripts last bs f → IsFinished plan.tables plan.rows plan.loads plan.scripts (is_some plan.last) bs f
fin_of plan bs f tables scripts last s t l h =
    subst (λ (x : Bool). IsFinished plan.tables plan.rows plan.loads plan.scripts x bs f) l
    (subst (λ (x : List (List Line)). IsFinished plan.tables plan.rows plan.loads x last bs f) s
    (subst (λ (x : List (List ℕ)). IsFinished x plan.rows plan.loads scripts last bs f) t h))

module _ (plan : Plan) (runs : IsRunnable plan) (replied : IfSome plan.replies (λ names. length names ≡ length plan.scripts)) (bs : List Answered) (f : Finished) (fin : IsFinished plan.tables plan.rows plan.loads plan.scripts (is_some plan.last) bs f) where
  pub whole : (old now : World) (mid : Option Files) (w1 : ℕ) (made written : Result (Unit {0}) Unwritten) (o : Outcome) → o.fronts ≡ f.fronts → old.writing ≤ w1 → w1 ≤ now.writing
      → OnOk made (Changes old.files mid (HasWritten (blank (unwrap_or plan.replies [])))) → OnErr made (Changes old.files mid (HasBegun (blank (unwrap_or plan.replies [])))) → IfErr made (IsUnwritten (unwrap_or plan.replies []) (Rose old.writing w1))
      → IsAfter made written (answers_in plan.replies bs ++ last_in plan.last f.last) mid now.files (Rose w1 now.writing)
      → IsReported old.printed now.printed (Rose old.printing now.printing) (summary_in plan.scripts f.fulls.items plan.tables f.fronts) (fulls_in f.fulls.items) written o.status → IsCarried plan old now o
  whole old now mid w1 made written o same l m first begun stops after report =
      let ts = told plan runs replied bs f fin in
      let files = settled bs (last_in plan.last f.last) plan.replies (a_worker_each plan runs replied bs f fin) made written old.files mid now.files old.writing w1 now.writing l m first begun stops after in
      let left = leaves (answers_in plan.replies bs ++ last_in plan.last f.last) (summary_in plan.scripts f.fulls.items plan.tables f.fronts) (fulls_in f.fulls.items) o.status old now written files report in
      let back = sym same in
      record {
        told = ts;
        ran = told_ran (setting_for plan) (fronts_of f.fronts) 0 plan.scripts bs (fit plan runs replied bs f fin);
        a_front_each = ap length same ∙ fin.a_front_each;
        true_fronts = subst (λ fs. (t : ℕ) (d : _) → t < length fs → IsTrue plan.rows (slice_index_or fs t d)) back fin.true_fronts;
        only = subst (λ fs. (t : ℕ) → OnlyWorkers (length plan.scripts) ((t ≡ 0) × (plan.last ≢ None)) (fronts_of fs t)) back (only_workers plan runs replied bs f fin);
        fits = λ w d l. subst (λ fs. Fits (setting_for plan) w (fronts_of fs) (slice_index_or ts w d)) back
            (subst (λ n. Fits (setting_for plan) n (fronts_of f.fronts) (slice_index_or ts w d)) (omega arith) (told_fits (setting_for plan) (fronts_of f.fronts) 0 plan.scripts bs (fit plan runs replied bs f fin) w d l));
        left = subst (λ fs. Leaves o.status (fulls ts) (run_outputs plan ts fs) (summary plan ts fs) old now) back
            (subst (λ n. Leaves o.status n (run_outputs plan ts f.fronts) (summary plan ts f.fronts) old now) (fulls_are plan runs replied bs f fin)
            (subst (λ t. Leaves o.status (fulls_in f.fulls.items) (run_outputs plan ts f.fronts) t old now) (text_are plan runs replied bs f fin)
            (subst (λ os. Leaves o.status (fulls_in f.fulls.items) os (summary_in plan.scripts f.fulls.items plan.tables f.fronts) old now) (outs_are plan runs replied bs f fin) left)));
      }
