-- How a run goes on, by what was found on the way.
use Rattle.std.specs.Prelude.{map}
use Rattle.std.proofs.Common.{◌≡◌, ◌||◌, ℕ, Bool, true, false, List, ◌++◌, length, Option, Some, None, Result, Ok, Err, refl, sym, ◌∙◌, ap, subst}
use Rattle.std.proofs.lemmas.List.Folds.{list_any-append}
use Rattle.snap_io.specs.Shelves.{Files, IfTold}
use Rattle.snap_text.specs.LoadFiles.{Loads}
use Rattle.snap_text.specs.declared.script.Line.{Line}
use Rattle.snap_words.specs.Outputs.{outputs, reply_name}
use Rattle.snap_words.specs.Words.{IsRefusedAs, job_of}
use Rattle.snap_words.specs.declared.words.Job.{Job}
use Rattle.snap_words.specs.declared.words.WordsFault.{WordsFault}
use Rattle.snap_words.specs.declared.words.WordsFault.TheVariants as words
use Rattle.snap_words.specs.declared.words.Work.TheVariants.{Made, Scripts}
use Rattle.snap_words.specs.declared.words.WordsRefusal.{WordsRefusal}
use Rattle.snap_plan.specs.declared.plan.Plan.{Plan}
use Rattle.snap_plan.specs.declared.stop.Stop.{Stop}
use Rattle.snap_plan.specs.declared.stop.Stop.TheVariants as stop
use Rattle.snap_plan.specs.Endings.{IsForJob, and_loads, checked_scripts, ending_of, ending_of_job, inputs_for, inputs_of, inputs_of_job, made_plan, plan_for, plan_of_scripts, replies_for, within_limits, workers_for}
use Rattle.snap_plan.specs.Inputs.{unless_stopped, loads_in, scripts_in}
use Rattle.snap_plan.specs.Needs.{all_commands, among, loads_named, passed_in, tables_named, unless_passed}
use Rattle.snap_plan.specs.Stops.{IsPastWords, IsRefusedBy, StopsBy, stop_of_words}
use Rattle.snap_plan.proofs.Made.{length-made_scripts}
use Rattle.snap_plan.proofs.Stopping.{Lifts, memory_stops}

-- refused words stop the run, whatever the files are
pub words_stop : (ws : List (List ℕ)) (files : Option Files) (names : Files → List (List ℕ)) (rose : Type 0) (fault : WordsFault) → IsRefusedAs (job_of ws) fault → StopsBy files (ending_of ws) names rose (stop_of_words fault)
unfolding ending_of
words_stop ws files names rose words.Memory refused = memory_stops files (ending_of ws) names rose
words_stop ws None names rose (words.Refused why) refused = tt
words_stop ws (Some f) names rose (words.Refused why) refused = ap (λ job. ending_of_job job f) refused

-- accepted words: the run goes on as their job does
pub planned_by : (ws : List (List ℕ)) (files : Option Files) (job : Job) (plan : Plan) → job_of ws ≡ Ok job → IfTold files (λ f. plan_for job.rows job.last job.work f ≡ Ok plan) → IfTold files (λ f. ending_of ws f ≡ Ok plan)
unfolding ending_of
planned_by ws None job plan is planned = tt
planned_by ws (Some f) job plan is planned = ap (λ r. ending_of_job r f) is ∙ planned

pub stopped_by : (ws : List (List ℕ)) (files : Option Files) (job : Job) (rose : Type 0) (s : Stop) → job_of ws ≡ Ok job → StopsBy files (plan_for job.rows job.last job.work) (inputs_for job.last job.work) rose s → StopsBy files (ending_of ws) (inputs_of ws) rose s
unfolding ending_of inputs_of
stopped_by ws files job rose s is stops = subst (λ r. StopsBy files (ending_of_job r) (inputs_of_job r) rose s) (sym is) stops

pub past_words : (job : Result Job WordsRefusal) (s : Stop) → IsPastWords s → IsRefusedBy job s
past_words job (stop.Words why) past = absurd past
past_words job _ past = tt

-- what a made plan has of its job
pub made_for : (job : Job) (commands seed workers : ℕ) (plan : Plan) → job.work ≡ Made commands seed workers → plan ≡ made_plan job.rows job.last commands seed workers → IsForJob job plan
made_for job commands seed workers plan is_work is = record {
  rows = ap (λ (p : Plan). p.rows) is;
  last = ap (λ (p : Plan). p.last) is;
  replies = ap (λ (p : Plan). p.replies) is ∙ sym (ap replies_for is_work);
  workers = ap (λ (p : Plan). length p.scripts) is ∙ length-made_scripts commands seed workers workers ∙ sym (ap workers_for is_work);
}

-- scripts that are read: what follows them
abbrev plan_with : ℕ → Option (List ℕ) → List (List ℕ) → List (List Line) → Loads → Plan
plan_with rows last names scripts loads = record {
  scripts = scripts;
  replies = Some (map reply_name names);
  tables = tables_named (all_commands scripts);
  loads = loads;
  rows = rows;
  last = last;
}

abbrev behind_scripts : ℕ → Option (List ℕ) → List (List ℕ) → Files → List (List Line) → Result Plan Stop
behind_scripts rows last names f scripts = unless_stopped (loads_in f (loads_named (all_commands scripts))) (λ loads. Ok (plan_with rows last names scripts loads))

checked_by : (last : Option (List ℕ)) (names : List (List ℕ)) (f : Files) (scripts : List (List Line)) → scripts_in f names ≡ Ok scripts → checked_scripts names last f ≡ unless_passed scripts (passed_in (outputs names last) names scripts)
checked_by last names f scripts read = ap (λ r. unless_stopped r (within_limits names last)) read

among_first : (names more : List (List ℕ)) (file : List ℕ) → among names file ≡ true → among (names ++ more) file ≡ true
among_first names more file is = list_any-append _ names more ∙ ap (λ b. b || among more file) is

among_behind : (names more : List (List ℕ)) (file : List ℕ) → among more file ≡ true → among (names ++ more) file ≡ true
among_behind names more file is = list_any-append _ names more ∙ ap (λ b. among names file || b) is ∙ or_true (among names file)
  where
    or_true : (b : Bool) → (b || true) ≡ true
    or_true true = refl
    or_true false = refl

among_inputs : (last : Option (List ℕ)) (names : List (List ℕ)) (f : Files) (file : List ℕ) → among names file ≡ true → among (inputs_for last (Scripts names) f) file ≡ true
among_inputs last names f file there = of_scripts (checked_scripts names last f)
  where
    of_scripts : (r : Result (List (List Line)) Stop) → among (and_loads names r) file ≡ true
    of_scripts (Ok scripts) = among_first names (loads_named (all_commands scripts)) file there
    of_scripts (Err s) = there

pub scripts_lift : (rows : ℕ) (last : Option (List ℕ)) (names : List (List ℕ)) (files : Option Files) → IfTold files (λ f. Lifts (scripts_in f names) (plan_of_scripts rows last names f) names (inputs_for last (Scripts names) f))
scripts_lift rows last names None = tt
scripts_lift rows last names (Some f) = (
  λ s stopped. ap (λ r. unless_stopped (unless_stopped r (within_limits names last)) (behind_scripts rows last names f)) stopped,
  λ file there. among_inputs last names f file there,
)

pub limits_lift : (rows : ℕ) (last : Option (List ℕ)) (names : List (List ℕ)) (files : Option Files) (scripts : List (List Line)) → IfTold files (λ f. scripts_in f names ≡ Ok scripts)
    → IfTold files (λ f. (s : Stop) → unless_passed scripts (passed_in (outputs names last) names scripts) ≡ Err s → plan_of_scripts rows last names f ≡ Err s)
limits_lift rows last names None scripts read = tt
limits_lift rows last names (Some f) scripts read = λ s stopped. ap (λ r. unless_stopped r (behind_scripts rows last names f)) (checked_by last names f scripts read ∙ stopped)

checked_as : (last : Option (List ℕ)) (names : List (List ℕ)) (f : Files) (scripts : List (List Line)) → scripts_in f names ≡ Ok scripts → passed_in (outputs names last) names scripts ≡ None → checked_scripts names last f ≡ Ok scripts
checked_as last names f scripts read none = checked_by last names f scripts read ∙ ap (unless_passed scripts) none

pub loads_lift : (rows : ℕ) (last : Option (List ℕ)) (names : List (List ℕ)) (files : Option Files) (scripts : List (List Line)) (loads : List (List ℕ)) → IfTold files (λ f. scripts_in f names ≡ Ok scripts)
    → passed_in (outputs names last) names scripts ≡ None → loads ≡ loads_named (all_commands scripts)
    → IfTold files (λ f. Lifts (loads_in f loads) (plan_of_scripts rows last names f) loads (inputs_for last (Scripts names) f))
loads_lift rows last names None scripts loads read none named = tt
loads_lift rows last names (Some f) scripts loads read none named = (
  λ s stopped. ap (λ r. unless_stopped r (behind_scripts rows last names f)) (checked_as last names f scripts read none)
      ∙ ap (λ r. unless_stopped r (λ found. Ok (plan_with rows last names scripts found))) (ap (loads_in f) (sym named) ∙ stopped),
  λ file there. ap (λ r. among (and_loads names r) file) (checked_as last names f scripts read none)
      ∙ among_behind names (loads_named (all_commands scripts)) file (ap (λ ns. among ns file) (sym named) ∙ there),
)

pub planned : (rows : ℕ) (last : Option (List ℕ)) (names : List (List ℕ)) (files : Option Files) (scripts : List (List Line)) (named : List (List ℕ)) (loads : Loads) (plan : Plan) → IfTold files (λ f. scripts_in f names ≡ Ok scripts)
    → passed_in (outputs names last) names scripts ≡ None → named ≡ loads_named (all_commands scripts) → IfTold files (λ f. loads_in f named ≡ Ok loads) → plan ≡ plan_with rows last names scripts loads
    → IfTold files (λ f. plan_of_scripts rows last names f ≡ Ok plan)
planned rows last names None scripts named loads plan read none is there made = tt
planned rows last names (Some f) scripts named loads plan read none is there made =
    ap (λ r. unless_stopped r (behind_scripts rows last names f)) (checked_as last names f scripts read none)
    ∙ ap (λ r. unless_stopped r (λ found. Ok (plan_with rows last names scripts found))) (ap (loads_in f) (sym is) ∙ there) ∙ ap Ok (sym made)
