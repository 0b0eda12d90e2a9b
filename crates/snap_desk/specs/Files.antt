-- The files of a run's workers: which there may be, and what becomes of them.
use Rattle.std.specs.Prelude.{◌≡◌, ◌≢◌, ◌⊎◌, ◌<◌, ◌++◌, ℕ, AllPairs, List, [], ◌∷◌, Option, Some, None, Result, Ok, Err, ⊤, flat_map, length, slice_index_or}
use denote.Ref.{Bor}
use Rattle.snap_desk.specs.Answers.{Answered, exported_file}
use Rattle.snap_desk.specs.Puts.{AreIn, AreOthers}
use Rattle.snap_io.specs.Shelves.{Changes, Files}
use Rattle.snap_model.specs.declared.command.Command.{Command}
use Rattle.snap_write.specs.Outputs.{HasBegun, HasWritten, IsNamed, IsUnwritten, Outputs, names_of}
use Rattle.snap_write.specs.declared.unwritten.Unwritten.{Unwritten}

-- every file but those of these names is as it was
abbrev pub KeepsOthers : List (List ℕ) → Files → Files → Type 0
KeepsOthers names old new = (name : List ℕ) → (new name ≡ old name) ⊎ IsNamed names name

-- the files that commands export
abbrev pub files_named : List Command → List (List ℕ)
files_named [] = []
files_named (c ∷ cs) = names_of (exported_file c []) ++ files_named cs

-- those of several scripts
abbrev pub all_files_named : List (List Command) → List (List ℕ)
all_files_named [] = []
all_files_named (script ∷ scripts) = files_named script ++ all_files_named scripts

-- the exports of these commands are files of these names; none of them is the reply file
abbrev pub AllIn : List (List ℕ) → List Command → Type 0
AllIn names [] = ⊤
AllIn names (c ∷ cs) = AreIn names (exported_file c []) × AllIn names cs

abbrev pub AllOthers : Option (List ℕ) → List Command → Type 0
AllOthers reply [] = ⊤
AllOthers reply (c ∷ cs) = AreOthers reply (exported_file c []) × AllOthers reply cs

-- a reply file for each script, and no two files of the scripts have the same name
pub record AreFilesApart (names : List (List ℕ)) (scripts : List (List Command)) : Type 0 where
  pub each : length names ≡ length scripts
  pub differ : AllPairs (λ a b. a ≢ b) (names ++ all_files_named scripts)

-- the names of the reply files, where there are such
abbrev pub names_in : Option (Bor (List (List ℕ))) → Option (List (List ℕ))
names_in None = None
names_in (Some names) = Some names.now

-- the names of all files that workers write: where the replies have files, these and the exports
abbrev pub answer_names : Option (List (List ℕ)) → List (List ℕ) → List (List ℕ)
answer_names None exports = []
answer_names (Some names) exports = names ++ exports

-- the reply files, each with the lines of its worker's replies
abbrev pub replies_in : List (List ℕ) → List Answered → Outputs
replies_in (name ∷ names) (a ∷ answers) = (name, a.lines) ∷ replies_in names answers
replies_in _ _ = []

-- the exports of all workers
abbrev pub exports_in : List Answered → Outputs
exports_in answers = flat_map (λ (a : Answered). a.exports) answers

abbrev pub answers_in : Option (List (List ℕ)) → List Answered → Outputs
answers_in None answers = []
answers_in (Some names) answers = replies_in names answers ++ exports_in answers

-- these files are there and empty
abbrev pub AreBlank : List (List ℕ) → Files → Type 0
AreBlank names files =
    (i : ℕ) (d : List ℕ) → i < length names → files (slice_index_or names i d) ≡ Some []

-- what became of files that are written where the reply files were made; where these weren't,
-- nothing
abbrev pub IsWrittenOr : Outputs → Option Files → Option Files → Type 0
    → Result (Unit {0}) Unwritten → Type 0
IsWrittenOr files old new fault (Ok u) = Changes old new (HasWritten files)
IsWrittenOr files old new fault (Err why) =
    Changes old new (HasBegun files) × IsUnwritten (names_of files) fault why

abbrev pub IsAfter : Result (Unit {0}) Unwritten → Result (Unit {0}) Unwritten → Outputs
    → Option Files → Option Files → Type 0 → Type 0
IsAfter (Ok u) result files old new fault = IsWrittenOr files old new fault result
IsAfter (Err why) result files old new fault = (new ≡ old) × (result ≡ Err why)
