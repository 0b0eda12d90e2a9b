-- What the jobs of scripts come to.
use Rattle.std.specs.Prelude.{◌≡◌, ◌<◌, ℕ, List, Option, Result, length, map, slice_index_or}
use denote.Ref.{Bor}
use Rattle.snap_desk.specs.{Answers.Answered, Files.answers_in, Files.IsAfter, Files.names_in}
use Rattle.snap_desk.specs.{declared.collecting.Collector.Collector}
use Rattle.snap_io.specs.Prelude.{Files, Rose}
use Rattle.snap_prelude.specs.{Known}
use Rattle.snap_service.specs.Prelude.{new_kit, new_session, Tables}
use Rattle.snap_text.specs.{LoadFiles.Loads, declared.script.Line.Line}
use Rattle.snap_write.specs.declared.unwritten.Unwritten.{Unwritten}
use Rattle.snap_crew.specs.{Works.HasWorked, Works.script_commands, Leaving.RunsAll, declared.leaving.Done.Done}
use Rattle.snap_crew.specs.{declared.scripts.Crew.Crew, declared.scripts.Ran.Ran}

-- each script was run by the kit of its number, and the files tell what its commands came to
pub record HasRunJobs (loads : Loads) (tables : Tables) (scripts : List (List Line))
    (names : Option (Bor (List (List ℕ)))) (made : Result (Unit {0}) Unwritten) (ran : Ran)
    (old new : Option Files) (w0 w1 : ℕ) : Type 0 where
  pub answered : List Answered
  pub answers_each : length answered ≡ length scripts
  pub receipts_each : length ran.receipts.items ≡ length scripts
  pub fulls : ran.fulls.items ≡ map (λ (a : Answered). a.full) answered
  pub worked : (i : ℕ) (s : List Line) (d : List Known) (a : Answered) → i < length scripts
      → HasWorked loads i (script_commands (slice_index_or scripts i s))
      (new_session tables (new_kit tables.laid i)) (slice_index_or ran.receipts.items i d)
      (slice_index_or answered i a)
  pub after : IsAfter made ran.written (answers_in (names_in names) answered) old new
      (Rose w0 w1)

-- all workers of a crew have ended, and what they put out came to a collector
pub record RunsCrew (loads : Loads) (names : Option (Bor (List (List ℕ))))
    (made : Result (Unit {0}) Unwritten) (crew : Crew) (done : List Done)
    (written : Result (Unit {0}) Unwritten) (old new : Option Files)
    (w0 w1 : ℕ) : Type 0 where
  pub end : Collector
  pub written_is : end.written ≡ written
  pub runs : RunsAll loads crew.seats.items done
      (record { taker = crew.taker; names = names; written = made }) end old new w0 w1
