-- Why a run is stopped before it has a plan, and the status of each cause.
use Rattle.std.specs.Prelude.{◌≡◌, ◌⊎◌, ℕ, List, Option, Some, None, Result, Err, IsTrue, ⊤}
use Rattle.snap_io.specs.Shelves.{Files, IsAbsent}
use Rattle.snap_words.specs.declared.words.Job.{Job}
use Rattle.snap_words.specs.declared.words.WordsFault.{WordsFault}
use Rattle.snap_words.specs.declared.words.WordsFault.TheVariants as words
use Rattle.snap_words.specs.declared.words.WordsRefusal.{WordsRefusal}
use Rattle.snap_plan.specs.declared.stop.Stop.{Stop}
use Rattle.snap_plan.specs.declared.stop.Stop.TheVariants as stop
use Rattle.snap_plan.specs.Needs.{among}

abbrev pub status_of : Stop → ℕ
status_of (stop.Words why) = 2
status_of (stop.Line script line kind) = 3
status_of (stop.LongScript script) = 3
status_of (stop.Limit script line limit) = 3
status_of (stop.Record file number) = 3
status_of (stop.LongLoad file) = 3
status_of (stop.Read file) = 4
status_of stop.Memory = 6

-- the stop that a fault of the words leads to
abbrev pub stop_of_words : WordsFault → Stop
stop_of_words (words.Refused why) = stop.Words why
stop_of_words words.Memory = stop.Memory

-- how a step was stopped that wants this, and reads files of these names: by what it wants, unless
-- memory is wanting or a read faulted
abbrev pub IsStopOf : {A : Type 0} → Result A Stop → List (List ℕ) → Type 0 → Stop → Type 0
IsStopOf wanted names read_fault stop.Memory = ⊤
IsStopOf wanted names read_fault (stop.Read name) =
    (wanted ≡ Err (stop.Read name)) ⊎ read_fault × IsTrue (among names name)
IsStopOf wanted names read_fault other = wanted ≡ Err other

-- where the files aren't told, a read stopped it only by a fault
abbrev pub IsBlindStop : Type 0 → Stop → Type 0
IsBlindStop read_fault (stop.Read name) = read_fault
IsBlindStop read_fault _ = ⊤

abbrev pub StopsBy : {A : Type 0} → Option Files → (Files → Result A Stop) → (Files → List (List ℕ))
    → Type 0 → Stop → Type 0
StopsBy None wanted names read_fault stop = IsBlindStop read_fault stop
StopsBy (Some files) wanted names read_fault stop =
    IsStopOf (wanted files) (names files) read_fault stop

-- a file of this name isn't there, unless memory is wanting or a read faulted
abbrev pub IsUnread : List ℕ → Option Files → Type 0 → Stop → Type 0
IsUnread name files read_fault stop.Memory = ⊤
IsUnread name files read_fault (stop.Read file) = (file ≡ name) × (read_fault ⊎ IsAbsent files name)
IsUnread name files read_fault _ = ⊥

-- a step was stopped by what it wants, unless memory is wanting
abbrev pub IsStopBy : {A : Type 0} → Result A Stop → Stop → Type 0
IsStopBy wanted stop.Memory = ⊤
IsStopBy wanted other = wanted ≡ Err other

-- the words were accepted, and the files that are asked for are there
abbrev pub IsPastReading : Stop → Type 0
IsPastReading (stop.Words why) = ⊥
IsPastReading (stop.Read file) = ⊥
IsPastReading _ = ⊤

-- the words were accepted
abbrev pub IsPastWords : Stop → Type 0
IsPastWords (stop.Words why) = ⊥
IsPastWords _ = ⊤

-- the words, or want of memory, stopped it
abbrev pub IsOfWords : {A : Type 0} → Result A Stop → Type 0
IsOfWords (Err (stop.Words why)) = ⊤
IsOfWords (Err stop.Memory) = ⊤
IsOfWords _ = ⊥

-- where the words are told as refused, they are, for this
abbrev pub IsRefusedBy : Result Job WordsRefusal → Stop → Type 0
IsRefusedBy job (stop.Words why) = job ≡ Err why
IsRefusedBy job _ = ⊤
