-- How a run ends: the status of a stop, by what words and files give; and a plan that was carried out behind its reading.
use Rattle.std.proofs.Common.{◌≡◌, ◌⊎◌, ℕ, List, [], ◌∷◌, ◌++◌, Option, Some, None, Result, Ok, Err, inl, inr, refl, sym, subst, IfErr, IfSome, IsErr, fold}
use Rattle.snap_io.specs.Prelude.{Files, IfTold, Rose}
use Rattle.snap_prelude.specs.{Command}
use Rattle.snap_text.specs.{Loads.load_of, Scripts.script_of, declared.fault.PairsFault.PairsFault}
use Rattle.snap_text.specs.{declared.fault.ScriptFault.ScriptFault, declared.script.Line.Line}
use Rattle.snap_text.specs.declared.fault.PairsFault.TheVariants as pairs
use Rattle.snap_text.specs.declared.fault.ScriptFault.TheVariants as script
use Rattle.snap_words.specs.{Outputs.outputs, Words.job_of, declared.words.Job.Job, declared.words.Work.Work}
use Rattle.snap_words.specs.{declared.words.Work.TheVariants.Made, declared.words.Work.TheVariants.Scripts}
use Rattle.snap_words.specs.{declared.words.WordsRefusal.WordsRefusal}
use Rattle.snap_plan.specs.Endings.{OfMade, OfMadeWork, checked_scripts, ending_of, ending_of_job, inputs_of, plan_for}
use Rattle.snap_plan.specs.Inputs.{Input, unless_stopped, as_load, as_script, first_missing, inputs_in, loads_in, meanings, or_load_stop, or_script_stop, scripts_in, unless_missing, with_meaning}
use Rattle.snap_plan.specs.Needs.{NamedLine, all_commands, limit_of, loads_named, named_lines, passed_from, passed_in, stop_at, unless_passed}
use Rattle.snap_plan.specs.{Stops.IsOfWords, Stops.IsPastWords, Stops.IsStopOf, Stops.status_of, Stops.StopsBy}
use Rattle.snap_plan.specs.{declared.needs.Limit.Limit, declared.plan.Plan.Plan, declared.stop.Stop.Stop}
use Rattle.snap_plan.specs.declared.stop.Stop.TheVariants as stop
use Rattle.snap_write.specs.Outputs.{Outputs}
use Rattle.snap_run.specs.{Outcomes.HasStatus, Outcomes.IsCarried, Outcomes.Leaves, Outcomes.Whole, Worlds.World}
use Rattle.snap_run.specs.{Worlds.world, declared.outcome.Outcome.Outcome}

-- files don't refuse words
then_past : {A B : Type 0} (r : Result A Stop) (next : A → Result B Stop) → IfErr r IsPastWords → ((x : A) → IfErr (next x) IsPastWords) → IfErr (unless_stopped r next) IsPastWords
then_past (Ok x) next past rest = rest x
then_past (Err s) next past rest = past

script_past : (input : Input) → IfErr (as_script input) IsPastWords
script_past (name, None) = tt
script_past (name, Some bytes) = of_script (script_of bytes)
  where
    of_script : (r : Result (List Line) ScriptFault) → IfErr (or_script_stop name r) IsPastWords
    of_script (Ok lines) = tt
    of_script (Err (script.Line line kind)) = tt
    of_script (Err script.TooLong) = tt
    of_script (Err script.Memory) = tt

load_past : (input : Input) → IfErr (as_load input) IsPastWords
load_past (name, None) = tt
load_past (name, Some bytes) = of_load (load_of bytes)
  where
    of_load : (r : Result (List (ℕ × ℕ)) PairsFault) → IfErr (or_load_stop name r) IsPastWords
    of_load (Ok ps) = tt
    of_load (Err (pairs.Record number)) = tt
    of_load (Err pairs.TooLong) = tt
    of_load (Err pairs.Memory) = tt

inputs_past : (most : ℕ) (f : Files) (names : List (List ℕ)) → IfErr (inputs_in most f names) IsPastWords
inputs_past most f names = of_missing (first_missing f names) _
  where
    of_missing : (o : Option (List ℕ)) (found : List Input) → IfErr (unless_missing o found) IsPastWords
    of_missing None found = tt
    of_missing (Some name) found = tt

meanings_past : {A : Type 0} (meaning : Input → Result A Stop) → ((input : Input) → IfErr (meaning input) IsPastWords) → (found : Result (List A) Stop) (inputs : List Input) → IfErr found IsPastWords → IfErr (fold (with_meaning meaning) found inputs) IsPastWords
meanings_past meaning past found [] so_far = so_far
meanings_past meaning past found (input ∷ inputs) so_far =
    meanings_past meaning past (with_meaning meaning found input) inputs
    (then_past found (λ xs. unless_stopped (meaning input) (λ x. Ok (xs ++ x ∷ []))) so_far (λ xs. then_past (meaning input) (λ x. Ok (xs ++ x ∷ [])) (past input) (λ x. tt)))

passed_past : (taken : List (List ℕ)) (before : List Command) (lines : List NamedLine) → IfSome (passed_from taken before lines) IsPastWords
passed_past taken before [] = tt
passed_past taken before (at ∷ below) = of_limit (limit_of taken before at.1.command) _ (passed_past taken (before ++ at.1.command ∷ []) below)
  where
    of_limit : (o : Option Limit) (behind : Option Stop) → IfSome behind IsPastWords → IfSome (stop_at at o behind) IsPastWords
    of_limit None behind past = past
    of_limit (Some limit) behind past = tt

limits_past : (taken names : List (List ℕ)) (scripts : List (List Line)) → IfErr (unless_passed scripts (passed_in taken names scripts)) IsPastWords
unfolding passed_in
limits_past taken names scripts = of_passed (passed_from taken [] (named_lines names scripts)) (passed_past taken [] (named_lines names scripts))
  where
    of_passed : (o : Option Stop) → IfSome o IsPastWords → IfErr (unless_passed scripts o) IsPastWords
    of_passed None past = tt
    of_passed (Some s) past = past

plan_past : (rows : ℕ) (last : Option (List ℕ)) (work : Work) (f : Files) → IfErr (plan_for rows last work f) IsPastWords
plan_past rows last (Made commands seed workers) f = tt
plan_past rows last (Scripts names) f =
    then_past (checked_scripts names last f) _
    (then_past (scripts_in f names) _ (then_past (inputs_in _ f names) (meanings as_script) (inputs_past _ f names) (λ inputs. meanings_past as_script script_past (Ok []) inputs tt)) (λ scripts. limits_past (outputs names last) names scripts))
    (λ scripts. then_past (loads_in f (loads_named (all_commands scripts))) _
    (then_past (inputs_in _ f (loads_named (all_commands scripts))) (meanings as_load) (inputs_past _ f (loads_named (all_commands scripts))) (λ inputs. meanings_past as_load load_past (Ok []) inputs tt)) (λ loads. tt))

refused_words : (ws : List (List ℕ)) (f : Files) (why : WordsRefusal) → ending_of ws f ≡ Err (stop.Words why) → IsErr (job_of ws)
unfolding ending_of
refused_words ws f why is = of_job (job_of ws) is
  where
    of_job : (job : Result Job WordsRefusal) → ending_of_job job f ≡ Err (stop.Words why) → IsErr job
    of_job (Err e) is = refl
    of_job (Ok job) is = absurd (subst (λ (r : Result Plan Stop). IfErr r IsPastWords) is (plan_past job.rows job.last job.work f))

-- the status where memory was wanting, of a stop that words and files give, and of a read that faulted
memory_status : (r : Result Plan Stop) (status : ℕ) (old now : World) → status ≡ 6 → HasStatus r status old now
memory_status (Ok plan) status old now is = inr (inr (inl is))
memory_status (Err (stop.Words why)) status old now is = inr is
memory_status (Err (stop.Line name line kind)) status old now is = inr (inl is)
memory_status (Err (stop.LongScript name)) status old now is = inr (inl is)
memory_status (Err (stop.Limit name line limit)) status old now is = inr (inl is)
memory_status (Err (stop.Record name number)) status old now is = inr (inl is)
memory_status (Err (stop.LongLoad name)) status old now is = inr (inl is)
memory_status (Err (stop.Read name)) status old now is = inr (inl is)
memory_status (Err stop.Memory) status old now is = inr (inl is)

wanted_status : (s : Stop) (status : ℕ) (old now : World) → status ≡ status_of s → HasStatus (Err s) status old now
wanted_status (stop.Words why) status old now is = inl is
wanted_status (stop.Line name line kind) status old now is = inl is
wanted_status (stop.LongScript name) status old now is = inl is
wanted_status (stop.Limit name line limit) status old now is = inl is
wanted_status (stop.Record name number) status old now is = inl is
wanted_status (stop.LongLoad name) status old now is = inl is
wanted_status (stop.Read name) status old now is = inl is
wanted_status stop.Memory status old now is = inl is

fault_status : (r : Result Plan Stop) (status : ℕ) (old now : World) → ((why : WordsRefusal) → r ≡ Err (stop.Words why) → ⊥) → status ≡ 4 → Rose old.reading now.reading → HasStatus r status old now
fault_status (Ok plan) status old now accepted is rose = inr (inr (inr (inl (is, rose))))
fault_status (Err (stop.Words why)) status old now accepted is rose = absurd (accepted why refl)
fault_status (Err (stop.Line name line kind)) status old now accepted is rose = inr (inr (is, rose))
fault_status (Err (stop.LongScript name)) status old now accepted is rose = inr (inr (is, rose))
fault_status (Err (stop.Limit name line limit)) status old now accepted is rose = inr (inr (is, rose))
fault_status (Err (stop.Record name number)) status old now accepted is rose = inr (inr (is, rose))
fault_status (Err (stop.LongLoad name)) status old now accepted is rose = inr (inr (is, rose))
fault_status (Err (stop.Read name)) status old now accepted is rose = inr (inr (is, rose))
fault_status (Err stop.Memory) status old now accepted is rose = inr (inr (is, rose))

by_stop : (r : Result Plan Stop) (names : List (List ℕ)) (s : Stop) (status : ℕ) (old now : World) → ((why : WordsRefusal) → r ≡ Err (stop.Words why) → IsOfWords {A = Plan} (Err s)) → IsStopOf r names (Rose old.reading now.reading) s → status ≡ status_of s → HasStatus r status old now
by_stop r names stop.Memory status old now words stops is = memory_status r status old now is
by_stop r names (stop.Read name) status old now words (inl same) is = subst (λ r. HasStatus r status old now) (sym same) (wanted_status (stop.Read name) status old now is)
by_stop r names (stop.Read name) status old now words (inr fault) is = fault_status r status old now words is fault.0
by_stop r names (stop.Words why) status old now words same is = subst (λ r. HasStatus r status old now) (sym same) (wanted_status (stop.Words why) status old now is)
by_stop r names (stop.Line name line kind) status old now words same is = subst (λ r. HasStatus r status old now) (sym same) (wanted_status (stop.Line name line kind) status old now is)
by_stop r names (stop.LongScript name) status old now words same is = subst (λ r. HasStatus r status old now) (sym same) (wanted_status (stop.LongScript name) status old now is)
by_stop r names (stop.Limit name line limit) status old now words same is = subst (λ r. HasStatus r status old now) (sym same) (wanted_status (stop.Limit name line limit) status old now is)
by_stop r names (stop.Record name number) status old now words same is = subst (λ r. HasStatus r status old now) (sym same) (wanted_status (stop.Record name number) status old now is)
by_stop r names (stop.LongLoad name) status old now words same is = subst (λ r. HasStatus r status old now) (sym same) (wanted_status (stop.LongLoad name) status old now is)

pub stop_status : (ws : List (List ℕ)) (files : Option Files) (s : Stop) (status : ℕ) (old now : World) → (IsErr (job_of ws) → IsOfWords {A = Plan} (Err s)) → StopsBy files (ending_of ws) (inputs_of ws) (Rose old.reading now.reading) s
    → (status ≡ 6) ⊎ (status ≡ status_of s) → IfTold files (λ f. HasStatus (ending_of ws f) status old now)
stop_status ws None s status old now words stops ended = tt
stop_status ws (Some f) s status old now words stops (inl is) = memory_status (ending_of ws f) status old now is
stop_status ws (Some f) s status old now words stops (inr is) = by_stop (ending_of ws f) (inputs_of ws f) s status old now (λ why same. words (refused_words ws f why same)) stops is

-- a fact of a made plan that follows from another
pub of_made : (job : Result Job WordsRefusal) (before after : Plan → Type 0) → ((plan : Plan) → before plan → after plan) → OfMade job before → OfMade job after
of_made (Err why) before after follows fact = tt
of_made (Ok job) before after follows fact = of_work job.work fact
  where
    of_work : (work : Work) → OfMadeWork job.rows job.last work before → OfMadeWork job.rows job.last work after
    of_work (Scripts names) fact = tt
    of_work (Made commands seed workers) fact = follows _ fact

-- what was carried out behind the reading was carried out from before it: reading changes no files, and writes nothing
module _ (files : Option Files) (printed : Option (List ℕ)) (reading later writing printing : ℕ) (now : World) where
  abbrev old : World
  old = world files printed reading writing printing

  abbrev mid : World
  mid = world files printed later writing printing

  whole_before : (fs : Outputs) (text : List ℕ) → Whole fs text mid now → Whole fs text old now
  whole_before fs text left = record { written = left.written; said = left.said }

  leaves_before : (status full : ℕ) (fs : Outputs) (text : List ℕ) → Leaves status full fs text mid now → Leaves status full fs text old now
  leaves_before status full fs text (inl (is, full_is, left)) = inl (is, full_is, whole_before fs text left)
  leaves_before status full fs text (inr (inl (is, full_is, left))) = inr (inl (is, full_is, whole_before fs text left))
  leaves_before status full fs text (inr (inr (is, inl cut))) = inr (inr (is, inl (record { faulted = cut.faulted; begun = cut.begun; name = cut.name; named = cut.named; said = cut.said })))
  leaves_before status full fs text (inr (inr (is, inr unsaid))) = inr (inr (is, inr (record { faulted = unsaid.faulted; written = unsaid.written; said = unsaid.said })))

  carried_before : (plan : Plan) (o : Outcome) → IsCarried plan mid now o → IsCarried plan old now o
  carried_before plan o c = record {
    told = c.told;
    ran = c.ran;
    a_front_each = c.a_front_each;
    true_fronts = c.true_fronts;
    only = c.only;
    fits = c.fits;
    left = leaves_before o.status _ _ _ c.left;
  }

pub carried_by : (files files' : Option Files) (printed : Option (List ℕ)) (reading later writing writing' printing : ℕ) (now : World) (plan : Plan) (o : Outcome) → files' ≡ files → writing' ≡ writing
    → IsCarried plan (world files' printed later writing' printing) now o → IsCarried plan (world files printed reading writing printing) now o
carried_by files files' printed reading later writing writing' printing now plan o same_files same_writing c =
    carried_before files printed reading later writing printing now plan o
    (subst (λ (w : ℕ). IsCarried plan (world files printed later w printing) now o) same_writing
    (subst (λ (fs : Option Files). IsCarried plan (world fs printed later writing' printing) now o) same_files c))
