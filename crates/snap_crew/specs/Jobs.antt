-- The jobs of a run of scripts.
use Rattle.std.specs.Prelude.{◌≡◌, ◌≢◌, ◌<◌, ◌≤◌, ◌*◌, ◌^◌, ℕ, AllPairs, List, Option, length, slice_index_or}
use denote.Ref.{Bor}
use Rattle.snap_outlet.specs.{Outlets.new_sender, Outlets.new_taker, Outlets.OutletId, Posts.new_post}
use Rattle.snap_prelude.specs.{Command, Known}
use Rattle.snap_text.specs.{declared.script.Line.Line, LoadFiles.Loads}
use Rattle.snap_service.specs.Prelude.{AreTables, CanRunAll, free_slots, new_kit, new_session, SessionState}
use Rattle.snap_service.specs.Prelude.{Tables}
use Rattle.snap_crew.specs.{Works.CanWork, Works.script_commands, Leaving.IsUnusedRoom, Seats.IsBlank, Seats.IsReplyAt}
use Rattle.snap_crew.specs.{declared.crew.Job.Job, declared.scripts.Crew.Crew, declared.seats.Seat.Seat}

-- these commands can be run by any session on tables of these names that has no clones, and they
-- are few
pub record IsRunnableOn (names : List (List ℕ)) (loads : Loads)
    (commands : List Command) : Type 0 where
  pub can : (s : SessionState) → s.tables.names ≡ names → s.clones ≡ free_slots
      → CanRunAll s loads commands
  pub few : length commands * 2 ^ 22 ≤ 2 ^ 47

-- each of these scripts
abbrev pub AreRunnableOn : List (List ℕ) → Loads → List (List Line) → Type 0
AreRunnableOn names loads scripts = (i : ℕ) (d : List Line) → i < length scripts
    → IsRunnableOn names loads (script_commands (slice_index_or scripts i d))

-- scripts that workers can run on new tables of these names
pub record IsTask (names : List (List ℕ)) (rows : ℕ) (loads : Loads)
    (scripts : List (List Line)) : Type 0 where
  pub a_name : 1 ≤ length names
  pub few_names : length names ≤ 8
  pub different_names : AllPairs (λ a b. a ≢ b) names
  pub a_row : 1 ≤ rows
  pub few_rows : rows ≤ 1048576
  pub few : length scripts ≤ 32
  pub scripts_run : AreRunnableOn names loads scripts

-- a kit of new passes on these tables for each script, by its number, and scripts that can be run
-- on them
pub record AreKits (tables : Tables) (loads : Loads) (scripts : List (List Line))
    (kits : List (List Known)) : Type 0 where
  pub of_service : AreTables tables
  pub a_kit_each : length kits ≡ length scripts
  pub new : (i : ℕ) (d : List Known) → i < length scripts
      → slice_index_or kits i d ≡ new_kit tables.laid i
  pub scripts_run : AreRunnableOn tables.names loads scripts
  pub few : length scripts ≤ 32

-- the job of worker i on these tables: a session that was just opened with the kit of its number,
-- and its commands
pub record IsJob (loads : Loads) (tables : Tables) (commands : List Command) (i : ℕ)
    (job : Job) : Type 0 where
  pub who_is : job.who ≡ i
  pub commands_are : script_commands job.script.now ≡ commands
  pub on : job.session ≡ new_session tables (new_kit tables.laid i)
  pub can : CanWork loads i job.session commands

-- a job on these tables for each of these scripts, by its number
abbrev pub AreJobs : Loads → Tables → List (List Line) → List Job → Type 0
AreJobs loads tables scripts jobs = (i : ℕ) (s : List Line) (e : Job) → i < length scripts
    → IsJob loads tables (script_commands (slice_index_or scripts i s)) i (slice_index_or jobs i e)

-- worker i at its seat, with its job on these tables, and nothing put out
pub record Sits (loads : Loads) (tables : Tables) (outlet : OutletId)
    (names : Option (Bor (List (List ℕ)))) (commands : List Command) (i : ℕ)
    (seat : Seat) : Type 0 where
  pub job : IsJob loads tables commands i seat.job
  pub post : seat.desk.post ≡ new_post (new_sender outlet i)
  pub reply : IsReplyAt names i seat.desk.reply
  pub blank : IsBlank seat.desk
  pub who : seat.desk.who ≡ seat.job.who

-- a worker for each script, and the taker of what they put out
pub record IsCrew (loads : Loads) (tables : Tables) (scripts : List (List Line))
    (names : Option (Bor (List (List ℕ)))) (crew : Crew) : Type 0 where
  pub taker : crew.taker ≡ new_taker crew.outlet (length scripts)
  pub a_seat_each : length crew.seats.items ≡ length scripts
  pub seats : (i : ℕ) (s : List Line) (d : Seat) → i < length scripts
      → Sits loads tables crew.outlet names (script_commands (slice_index_or scripts i s)) i
      (slice_index_or crew.seats.items i d)
  pub room : IsUnusedRoom (length scripts) crew.room
