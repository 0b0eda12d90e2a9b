-- What jobs hand over, by number, and what the closed tables tell of it.
use Rattle.std.proofs.Common.{◌≡◌, ◌<◌, ◌+◌, ◌-◌, ℕ, List, length, ap, sym, ◌∙◌, subst, arith, slice_index_or}
use Rattle.snap_prelude.proofs.Common.{slice_get-get_or}
use Rattle.snap_fits.specs.Fits.{Front}
use Rattle.snap_prelude.specs.{after, Command, Ended, IsLastState, IsLegal, Known}
use Rattle.snap_service.specs.Prelude.{AreTables, new_kit, new_session, setting, SessionState, Tables}
use Rattle.snap_text.specs.LoadFiles.{Loads}
use Rattle.snap_crew.specs.Prelude.{Answered, AreEnded, CanWork, script_commands, HasFit}
use Rattle.snap_crew.specs.Prelude.{HasWorked, IsJob, IsTrue, Job, setting_of}

-- the session of worker i as it begins
abbrev pub begin : Tables → ℕ → SessionState
begin tables i = new_session tables (new_kit tables.laid i)

-- a job is by its own fields what it is by its number and script
module _ (loads : Loads) (tables : Tables) (commands : List Command) (i : ℕ) (job : Job) (is : IsJob loads tables commands i job) where
  pub job_can : CanWork loads job.who job.session (script_commands job.script.now)
  job_can = subst (λ (cs : List Command). CanWork loads job.who job.session cs) (sym is.commands_are) (subst (λ (w : ℕ). CanWork loads w job.session commands) (sym is.who_is) is.can)

  pub job_worked : (receipt : List Known) (answers : Answered) → HasWorked loads job.who (script_commands job.script.now) job.session receipt answers → HasWorked loads i commands (begin tables i) receipt answers
  job_worked receipt answers h =
      subst (λ (w : ℕ). HasWorked loads w commands (begin tables i) receipt answers) is.who_is
      (subst (λ (cs : List Command). HasWorked loads job.who cs (begin tables i) receipt answers) is.commands_are
      (subst (λ (s : SessionState). HasWorked loads job.who (script_commands job.script.now) s receipt answers) is.on h))

-- an outcome speaks of names, rows and workers alone
pub named_fit : (tables : Tables) (names : List (List ℕ)) (rows workers : ℕ) (loads : Loads) (fronts : ℕ → Front) (w : ℕ) (cs : List Command) (answers : Answered) → tables.names ≡ names → tables.rows ≡ rows → tables.kits ≡ workers + 1
    → HasFit (setting tables loads) fronts w cs answers → HasFit (setting_of names rows loads workers) fronts w cs answers
named_fit tables names rows workers loads fronts w cs answers n r k h =
    subst (λ (x : ℕ). HasFit (setting_of names rows loads x) fronts w cs answers) (omega (arith, k))
    (subst (λ (x : ℕ). HasFit (setting_of names x loads (tables.kits - 1)) fronts w cs answers) r
    (subst (λ (x : List (List ℕ)). HasFit (setting_of x tables.rows loads (tables.kits - 1)) fronts w cs answers) n h))

-- a closed table tells its history truly
pub true_front : (tables : Tables) (fronts : List Ended) → AreTables tables → AreEnded tables fronts → (t : ℕ) (d : Ended) → t < length fronts → IsTrue tables.rows (slice_index_or fronts t d)
true_front tables fronts ok ended t d l =
    let c = ended.closed.each t (slice_index_or fronts t d) (slice_get-get_or fronts t d l) in
    let lt : t < length tables.laid = omega (arith, l, ended.closed.a_front_each, ended.seated.a_pass_each) in
    let sit = ended.seated.each t lt in
    record {
      legal = subst (λ (k : Known). IsLegal k.view.seen) (sym c.last) c.knows.legal;
      writes = c.writes ∙ ap (λ (k : Known). length k.view.seen) (sym c.last);
      pairs = c.pairs ∙ ap (λ (k : Known). length (after k.view.seen)) (sym c.last);
      drawn = omega (arith, c.drawn, sit.of.1 ∙ ok.rows_are t lt);
      state = (let front = slice_index_or fronts t d in subst (λ (k : Known). IsLastState k.view front.drawn) (sym c.last) c.state);
    }
