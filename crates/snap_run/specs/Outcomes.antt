-- What a run comes to. Its words and files give a plan, or the first thing by which it is stopped;
-- a plan is carried out.
use Rattle.std.specs.Prelude.{◌≡◌, ◌≢◌, ◌<◌, ◌≤◌, ◌⊎◌, ℕ, List, [], ◌∷◌, Option, None, Result, Ok, Err, ⊤, length, map, slice_index_or}
use Rattle.snap_fits.specs.Fits.{Fits, Front, Told}
use Rattle.snap_io.specs.Prelude.{Changes, IfTold, Rose}
use Rattle.snap_prelude.specs.{calls_of, Ended}
use Rattle.snap_service.specs.Prelude.{fronts_of}
use Rattle.snap_crew.specs.Prelude.{script_commands, IsTrue as IsTrueFront}
use Rattle.snap_plan.specs.{Endings.ending_of, Endings.inputs_of, Endings.IsFor, Endings.OfMade, Runnable.IsRunnable}
use Rattle.snap_plan.specs.{Stops.IsRefusedBy, Stops.status_of, Stops.StopsBy, Texts.stop_text, declared.plan.Plan.Plan}
use Rattle.snap_plan.specs.{declared.stop.Stop.Stop}
use Rattle.snap_plan.specs.declared.stop.Stop.TheVariants as stop
use Rattle.snap_words.specs.{Words.job_of, declared.words.Job.Job, declared.words.Work.Work}
use Rattle.snap_words.specs.{declared.words.Work.TheVariants.Made, declared.words.WordsRefusal.WordsRefusal}
use Rattle.snap_write.specs.Outputs.{HasBegun, HasWritten, IsNamed, Outputs, names_of}
use Rattle.snap_run.specs.{Files.run_outputs, Files.setting_for, Printed.fault_text, Printed.fulls, Printed.summary}
use Rattle.snap_run.specs.{Worlds.Adds, Worlds.AddsPart, Worlds.Tells, Worlds.World, declared.outcome.Outcome.Outcome}

-- all files have their texts, and the summary was printed
pub record Whole (files : Outputs) (text : List ℕ) (old now : World) : Type 0 where
  pub written : Changes old.files now.files (HasWritten files)
  pub said : Adds old.printed now.printed text

-- a write failed: each file has a front of its text or is as it was, and the name of one of them
-- was told
pub record IsCutOff (files : Outputs) (old now : World) : Type 0 where
  pub faulted : Rose old.writing now.writing
  pub begun : Changes old.files now.files (HasBegun files)
  pub name : List ℕ
  pub named : IsNamed (names_of files) name
  pub said : Tells old.printed now.printed (Rose old.printing now.printing) (fault_text name)

-- all files have their texts, and the summary could not be printed whole
pub record IsUnsaid (files : Outputs) (text : List ℕ) (old now : World) : Type 0 where
  pub faulted : Rose old.printing now.printing
  pub written : Changes old.files now.files (HasWritten files)
  pub said : AddsPart old.printed now.printed text

-- what is left outside at each status of a plan that was carried out
abbrev pub Leaves : ℕ → ℕ → Outputs → List ℕ → World → World → Type 0
Leaves status full files text old now =
    ((status ≡ 0) × (full ≡ 0) × Whole files text old now)
    ⊎ ((status ≡ 1) × (full ≢ 0) × Whole files text old now)
    ⊎ ((status ≡ 5) × (IsCutOff files old now ⊎ IsUnsaid files text old now))

-- only the workers made entries and clones; the caller made one clone at most: with a final file,
-- of the whole first table
pub record OnlyWorkers (workers : ℕ) (last : Type 0) (f : Front) : Type 0 where
  pub entries : (i : ℕ) → workers ≤ i → calls_of f.history i ≡ []
  pub cuts : (i : ℕ) → workers < i → f.cuts i ≡ []
  pub own : (f.cuts workers ≡ []) ⊎ (last × (f.cuts workers ≡ length f.history ∷ []))

-- a plan was carried out: of each worker there is what it was told, command by command with its
-- moment; every table's front is one legal history, and each worker's commands fit these histories;
-- files and summary say just that
pub record IsCarried (plan : Plan) (old now : World) (o : Outcome) : Type 0 where
  pub told : List (List Told)
  pub ran : map (λ (ts : List Told). map (λ (t : Told). t.command) ts) told
      ≡ map script_commands plan.scripts
  pub a_front_each : length o.fronts ≡ length plan.tables
  pub true_fronts : (t : ℕ) (d : Ended) → t < length o.fronts
      → IsTrueFront plan.rows (slice_index_or o.fronts t d)
  pub only : (t : ℕ)
      → OnlyWorkers (length plan.scripts) ((t ≡ 0) × (plan.last ≢ None)) (fronts_of o.fronts t)
  pub fits : (w : ℕ) (d : List Told) → w < length told
      → Fits (setting_for plan) w (fronts_of o.fronts) (slice_index_or told w d)
  pub left : Leaves o.status (fulls told) (run_outputs plan told o.fronts)
      (summary plan told o.fronts) old now

-- the statuses of a plan that was carried out
abbrev pub HasEnded : ℕ → Type 0
HasEnded status = (status ≡ 0) ⊎ (status ≡ 1) ⊎ (status ≡ 5) ⊎ (status ≡ 6)

-- a plan for these words that can be run, and where files are told, the plan that they give
pub record IsPlanOf (words : List (List ℕ)) (old : World) (plan : Plan) : Type 0 where
  pub asked : IsFor (job_of words) plan
  pub runnable : IsRunnable plan
  pub gives : IfTold old.files (λ f. ending_of words f ≡ Ok plan)
  pub made : OfMade (job_of words) (λ made. plan ≡ made)

pub record IsCarriedOut (words : List (List ℕ)) (old now : World) (o : Outcome) : Type 0 where
  pub plan : Plan
  pub of_words : IsPlanOf words old plan
  pub carried : IsCarried plan old now o

-- the run was stopped before it had a plan, for the first reason: that was told, or its front where
-- a print failed, and no file was touched; words that ask for made scripts are no reason
pub record IsStopped (words : List (List ℕ)) (old now : World) (status : ℕ) : Type 0 where
  pub why : Stop
  pub status_is : status ≡ status_of why
  pub refused : IsRefusedBy (job_of words) why
  pub unmade : OfMade (job_of words) (λ made. ⊥)
  pub cause : StopsBy old.files (ending_of words) (inputs_of words)
      (Rose old.reading now.reading) why
  pub untouched : now.files ≡ old.files
  pub unwritten : now.writing ≡ old.writing
  pub said : Tells old.printed now.printed (Rose old.printing now.printing) (stop_text why)

-- unless memory was wanting
abbrev pub IsGood : List (List ℕ) → World → World → Outcome → Type 0
IsGood words old now o =
    (IsStopped words old now o.status × (o.fronts ≡ [])) ⊎ IsCarriedOut words old now o

-- the status by what words and files give: that of the stop, or of a plan that is carried out; 4
-- and 5 only by a fault
abbrev pub HasStatus : Result Plan Stop → ℕ → World → World → Type 0
HasStatus (Ok plan) status old now =
    (status ≡ 0)
    ⊎ (status ≡ 1)
    ⊎ (status ≡ 6)
    ⊎ (status ≡ 4) × Rose old.reading now.reading
    ⊎ (status ≡ 5) × (Rose old.writing now.writing ⊎ Rose old.printing now.printing)
HasStatus (Err (stop.Words why)) status old now = (status ≡ 2) ⊎ (status ≡ 6)
HasStatus (Err why) status old now =
    (status ≡ status_of why) ⊎ (status ≡ 6) ⊎ (status ≡ 4) × Rose old.reading now.reading

abbrev pub IsStatus : ℕ → Type 0
IsStatus status = status ≤ 6

-- no file is read or written: the scripts are made, and no final file is asked for
abbrev pub IsUnneededWork : Option (List ℕ) → Work → Type 0
IsUnneededWork None (Made commands seed workers) = ⊤
IsUnneededWork _ _ = ⊥

abbrev pub IsUnneeded : Result Job WordsRefusal → Type 0
IsUnneeded (Ok job) = IsUnneededWork job.last job.work
IsUnneeded (Err why) = ⊥
