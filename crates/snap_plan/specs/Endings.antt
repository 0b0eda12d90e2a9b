-- How a run goes on after its words and files were read: by a plan, or not at all.
use Rattle.std.specs.Prelude.{◌≡◌, ℕ, List, [], ◌∷◌, ◌++◌, Option, Some, None, Result, Ok, Err, ⊤, length, map}
use Rattle.snap_io.specs.Shelves.{Files}
use Rattle.snap_text.specs.declared.script.Line.{Line}
use Rattle.snap_made.specs.Generator.{made_scripts}
use Rattle.snap_words.specs.Outputs.{outputs, reply_name}
use Rattle.snap_words.specs.Words.{job_of}
use Rattle.snap_words.specs.declared.words.Job.{Job}
use Rattle.snap_words.specs.declared.words.Work.{Work}
use Rattle.snap_words.specs.declared.words.Work.TheVariants.{Made, Scripts}
use Rattle.snap_words.specs.declared.words.WordsRefusal.{WordsRefusal}
use Rattle.snap_plan.specs.declared.plan.Plan.{Plan}
use Rattle.snap_plan.specs.declared.stop.Stop.{Stop}
use Rattle.snap_plan.specs.declared.stop.Stop.TheVariants as stop
use Rattle.snap_plan.specs.Inputs.{unless_stopped, loads_in, scripts_in}
use Rattle.snap_plan.specs.Needs.{all_commands, loads_named, main_table, passed_in, tables_named, unless_passed}

-- scripts of these names, unless a line of theirs passes a limit
abbrev pub within_limits : List (List ℕ) → Option (List ℕ) → List (List Line)
    → Result (List (List Line)) Stop
within_limits names last scripts =
    unless_passed scripts (passed_in (outputs names last) names scripts)

-- the scripts of a run, before any load file is asked for
abbrev pub checked_scripts : List (List ℕ) → Option (List ℕ) → Files
    → Result (List (List Line)) Stop
checked_scripts names last files =
    unless_stopped (scripts_in files names) (within_limits names last)

-- the plan of scripts that are read: a reply file for each, and the tables and load files that they
-- name
abbrev pub plan_of_scripts : ℕ → Option (List ℕ) → List (List ℕ) → Files → Result Plan Stop
plan_of_scripts rows last names files =
    unless_stopped (checked_scripts names last files) (λ scripts.
    unless_stopped (loads_in files (loads_named (all_commands scripts))) (λ loads. Ok (record {
      scripts = scripts;
      replies = Some (map reply_name names);
      tables = tables_named (all_commands scripts);
      loads = loads;
      rows = rows;
      last = last;
    })))

-- the plan of scripts that are made, which needs no files: one for each worker, no reply file, and
-- one table
abbrev pub made_plan : ℕ → Option (List ℕ) → ℕ → ℕ → ℕ → Plan
made_plan rows last commands seed workers = record {
  scripts = made_scripts commands seed workers workers;
  replies = None;
  tables = main_table ∷ [];
  loads = [];
  rows = rows;
  last = last;
}

abbrev pub plan_for : ℕ → Option (List ℕ) → Work → Files → Result Plan Stop
plan_for rows last (Scripts names) files = plan_of_scripts rows last names files
plan_for rows last (Made commands seed workers) files =
    Ok (made_plan rows last commands seed workers)

abbrev pub ending_of_job : Result Job WordsRefusal → Files → Result Plan Stop
ending_of_job (Err why) files = Err (stop.Words why)
ending_of_job (Ok job) files = plan_for job.rows job.last job.work files

-- the plan that words and files give, or the first thing by which the run is stopped
unfoldable pub ending_of : List (List ℕ) → Files → Result Plan Stop
ending_of words files = ending_of_job (job_of words) files

-- the names of the files that are read: the scripts, and where these are accepted, the load files
-- that they name
abbrev pub and_loads : List (List ℕ) → Result (List (List Line)) Stop → List (List ℕ)
and_loads names (Ok scripts) = names ++ loads_named (all_commands scripts)
and_loads names (Err stop) = names

abbrev pub inputs_for : Option (List ℕ) → Work → Files → List (List ℕ)
inputs_for last (Scripts names) files = and_loads names (checked_scripts names last files)
inputs_for last (Made commands seed workers) files = []

abbrev pub inputs_of_job : Result Job WordsRefusal → Files → List (List ℕ)
inputs_of_job (Err why) files = []
inputs_of_job (Ok job) files = inputs_for job.last job.work files

unfoldable pub inputs_of : List (List ℕ) → Files → List (List ℕ)
inputs_of words files = inputs_of_job (job_of words) files

-- what of a plan the words alone decide
abbrev pub replies_for : Work → Option (List (List ℕ))
replies_for (Scripts names) = Some (map reply_name names)
replies_for (Made commands seed workers) = None

abbrev pub workers_for : Work → ℕ
workers_for (Scripts names) = length names
workers_for (Made commands seed workers) = workers

pub record IsForJob (job : Job) (plan : Plan) : Type 0 where
  pub rows : plan.rows ≡ job.rows
  pub last : plan.last ≡ job.last
  pub replies : plan.replies ≡ replies_for job.work
  pub workers : length plan.scripts ≡ workers_for job.work

abbrev pub IsFor : Result Job WordsRefusal → Plan → Type 0
IsFor (Err why) plan = ⊥
IsFor (Ok job) plan = IsForJob job plan

-- a fact of the plan that is made, where the words ask for one
abbrev pub OfMadeWork : ℕ → Option (List ℕ) → Work → (Plan → Type 0) → Type 0
OfMadeWork rows last (Scripts names) fact = ⊤
OfMadeWork rows last (Made commands seed workers) fact =
    fact (made_plan rows last commands seed workers)

abbrev pub OfMade : Result Job WordsRefusal → (Plan → Type 0) → Type 0
OfMade (Err why) fact = ⊤
OfMade (Ok job) fact = OfMadeWork job.rows job.last job.work fact
