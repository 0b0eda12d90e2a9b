-- What is known at the end of a run: of the closed tables, of each worker, and of the text of the
-- first table.
use Rattle.std.specs.Prelude.{◌≡◌, ◌<◌, ◌≤◌, ◌-◌, ℕ, Bool, true, false, List, [], Option, Some, None, Result, Vec, ⊤, length, map, slice_index_or, unwrap_or}
use Rattle.std.specs.Global.{Global}
use Rattle.snap_fits.specs.Fits.{Front, Setting}
use Rattle.snap_prelude.specs.{after, Ended, IsLastState, IsLegal, Known}
use Rattle.snap_text.specs.{Tables.table_text, declared.script.Line.Line, LoadFiles.Loads, LoadFiles.pairs_of}
use Rattle.snap_service.specs.Prelude.{Admits, AreClosed, AreSeated, fronts_of, IsFrontOfWorkers, table_place, Tables}
use Rattle.snap_crew.specs.{Works.FitsIf, Works.HasFit, Works.script_commands, declared.scripts.Task.Task}
use Rattle.snap_crew.specs.{declared.ending.Ending.Ending, declared.scripts.Finished.Finished}
use Rattle.snap_desk.specs.{Files.answers_in, Files.IsAfter, Files.names_in, Answers.Answered}
use Rattle.snap_io.specs.Prelude.{Files, Rose}
use Rattle.snap_write.specs.declared.unwritten.Unwritten.{Unwritten}

-- a front tells its history truly, and was the table's last state: where it is told as worn, a
-- row's stamp was at its greatest count there
pub record IsTrue (rows : ℕ) (f : Ended) : Type 0 where
  pub legal : IsLegal f.last.view.seen
  pub writes : f.writes ≡ length f.last.view.seen
  pub pairs : f.pairs ≡ length (after f.last.view.seen)
  pub drawn : f.drawn ≤ rows
  pub state : IsLastState f.last.view f.drawn

-- some kit closed these tables
pub record AreEnded (tables : Tables) (fronts : List Ended) : Type 0 where
  pub kit : List Known
  pub seated : AreSeated tables kit
  pub closed : AreClosed kit fronts

-- the text of a table, where it was wanted
abbrev pub IsTextIf : Bool → Option (Vec ℕ Global) → Front → Type 0
IsTextIf true (Some text) f = text.items ≡ table_text (after f.history)
IsTextIf false None f = ⊤
IsTextIf _ _ f = ⊥

-- only workers made entries and clones; the caller made one clone at most, of the whole first
-- table, where it was wanted
pub record AreWorkers (workers : ℕ) (wanted : Bool) (fronts : List Ended) : Type 0 where
  pub only : (t : ℕ) → IsFrontOfWorkers workers t (fronts_of fronts t)
  pub uncut : wanted ≡ false → (t : ℕ) → (fronts_of fronts t).cuts workers ≡ []

-- how the tables were closed by the caller's kit, to which all others had been admitted
pub record IsEnding (tables : Tables) (kit : List Known) (wanted : Bool)
    (ending : Ending) : Type 0 where
  pub fits : (w : ℕ) (passes : List Known) → AreSeated tables passes → Admits kit passes
      → FitsIf tables w passes ending.fronts
  pub workers : AreWorkers (tables.kits - 1) wanted ending.fronts
  pub closed : AreEnded tables ending.fronts
  pub text : IsTextIf wanted ending.last (fronts_of ending.fronts 0)

-- the same with the workers' receipts, in the order of their numbers
pub record IsEnd (tables : Tables) (receipts : List (List Known)) (wanted : Bool)
    (ending : Ending) : Type 0 where
  pub fits : (w : ℕ) (d : List Known) → w < length receipts
      → FitsIf tables w (slice_index_or receipts w d) ending.fronts
  pub workers : AreWorkers (length receipts) wanted ending.fronts
  pub closed : AreEnded tables ending.fronts
  pub text : IsTextIf wanted ending.last (fronts_of ending.fronts 0)

-- a run as the outcome speaks of it: the rows of a table, the workers, each table's place by its
-- name, each load file's pairs
abbrev pub setting_of : List (List ℕ) → ℕ → Loads → ℕ → Setting
setting_of names rows loads workers = record {
  rows = rows;
  workers = workers;
  table = λ name. unwrap_or (table_place names name) 0;
  pairs = λ file. pairs_of loads file;
}

-- what these scripts came to on new tables of these names, and this of each worker
pub record IsFinished (names : List (List ℕ)) (rows : ℕ) (loads : Loads)
    (scripts : List (List Line)) (wanted : Bool) (answered : List Answered)
    (f : Finished) : Type 0 where
  pub a_front_each : length f.fronts ≡ length names
  pub true_fronts : (t : ℕ) (d : Ended) → t < length f.fronts
      → IsTrue rows (slice_index_or f.fronts t d)
  pub workers : AreWorkers (length scripts) wanted f.fronts
  pub answers_each : length answered ≡ length scripts
  pub fulls : f.fulls.items ≡ map (λ (a : Answered). a.full) answered
  pub fits : (w : ℕ) (d : List Line) (a : Answered) → w < length scripts
      → HasFit (setting_of names rows loads (length scripts)) (fronts_of f.fronts) w
      (script_commands (slice_index_or scripts w d)) (slice_index_or answered w a)
  pub text : IsTextIf wanted f.last (fronts_of f.fronts 0)

-- a task is finished, and the files tell what its workers' commands came to, unless they could not
-- be written
pub record Finishes (task : Task) (made : Result (Unit {0}) Unwritten) (old new : Option Files)
    (w0 w1 : ℕ) (f : Finished) : Type 0 where
  pub answered : List Answered
  pub finished : IsFinished task.tables.now task.rows task.loads.now task.scripts.now task.last
      answered f
  pub after : IsAfter made f.written (answers_in (names_in task.replies) answered) old new
      (Rose w0 w1)
