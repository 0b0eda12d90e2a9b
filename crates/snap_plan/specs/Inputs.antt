-- What a run reads: its scripts, and the load files that they name. Of files that are read together
-- all are read before any is looked into; so the first that isn't there stops, and then the first
-- that is refused.
use Rattle.std.specs.Prelude.{ℕ, nat_lt, List, [], ◌∷◌, ◌++◌, Option, Some, None, Result, Ok, Err, find, fold, is_none, length, map, if◌then◌else◌}
use Rattle.snap_io.specs.Shelves.{Files}
use Rattle.snap_text.specs.LoadFiles.{Loads}
use Rattle.snap_text.specs.Loads.{load_of, most_load_bytes}
use Rattle.snap_text.specs.Scripts.{most_bytes, script_of}
use Rattle.snap_text.specs.declared.script.Line.{Line}
use Rattle.snap_text.specs.declared.fault.PairsFault.{PairsFault}
use Rattle.snap_text.specs.declared.fault.PairsFault.TheVariants as pairs
use Rattle.snap_text.specs.declared.fault.ScriptFault.{ScriptFault}
use Rattle.snap_text.specs.declared.fault.ScriptFault.TheVariants as script
use Rattle.snap_plan.specs.declared.stop.Stop.{Stop}
use Rattle.snap_plan.specs.declared.stop.Stop.TheVariants as stop

-- what follows where nothing stopped
abbrev pub unless_stopped : {A B : Type 0} → Result A Stop → (A → Result B Stop) → Result B Stop
unless_stopped (Ok x) f = f x
unless_stopped (Err stop) f = Err stop

-- a file that was read: its name, and its bytes unless it is too long
abbrev pub Input : Type 0
Input = List ℕ × Option (List ℕ)

abbrev pub unless_longer : ℕ → Option (List ℕ) → Option (List ℕ)
unless_longer most None = None
unless_longer most (Some bytes) = if nat_lt most (length bytes) then None else Some bytes

abbrev pub input_of : ℕ → Files → List ℕ → Input
input_of most files name = (name, unless_longer most (files name))

-- the files of these names; the first that isn't there stops
abbrev pub first_missing : Files → List (List ℕ) → Option (List ℕ)
first_missing files names = find (λ name. is_none (files name)) names

abbrev pub unless_missing : {A : Type 0} → Option (List ℕ) → A → Result A Stop
unless_missing None found = Ok found
unless_missing (Some name) found = Err (stop.Read name)

abbrev pub inputs_in : ℕ → Files → List (List ℕ) → Result (List Input) Stop
inputs_in most files names =
    unless_missing (first_missing files names) (map (input_of most files) names)

-- what inputs mean, in their order; the first that is refused stops
abbrev pub with_meaning : {A : Type 0} → (Input → Result A Stop) → Result (List A) Stop → Input
    → Result (List A) Stop
with_meaning meaning found input =
    unless_stopped found (λ xs. unless_stopped (meaning input) (λ x. Ok (xs ++ x ∷ [])))

abbrev pub meanings : {A : Type 0} → (Input → Result A Stop) → List Input → Result (List A) Stop
meanings meaning inputs = fold (with_meaning meaning) (Ok []) inputs

-- the stop at a script that is refused, and at a load file
abbrev pub stop_of_script : List ℕ → ScriptFault → Stop
stop_of_script name (script.Line line kind) = stop.Line name line kind
stop_of_script name script.TooLong = stop.LongScript name
stop_of_script name script.Memory = stop.Memory

abbrev pub stop_of_load : List ℕ → PairsFault → Stop
stop_of_load name (pairs.Record number) = stop.Record name number
stop_of_load name pairs.TooLong = stop.LongLoad name
stop_of_load name pairs.Memory = stop.Memory

-- an input as a script: its lines, or the stop at it
abbrev pub or_script_stop : List ℕ → Result (List Line) ScriptFault → Result (List Line) Stop
or_script_stop name (Ok lines) = Ok lines
or_script_stop name (Err fault) = Err (stop_of_script name fault)

abbrev pub as_script : Input → Result (List Line) Stop
as_script (name, None) = Err (stop.LongScript name)
as_script (name, Some bytes) = or_script_stop name (script_of bytes)

-- an input as a load file: its name with its pairs, or the stop at it
abbrev pub or_load_stop : List ℕ → Result (List (ℕ × ℕ)) PairsFault
    → Result (List ℕ × List (ℕ × ℕ)) Stop
or_load_stop name (Ok pairs) = Ok (name, pairs)
or_load_stop name (Err fault) = Err (stop_of_load name fault)

abbrev pub as_load : Input → Result (List ℕ × List (ℕ × ℕ)) Stop
as_load (name, None) = Err (stop.LongLoad name)
as_load (name, Some bytes) = or_load_stop name (load_of bytes)

-- the scripts and the load files of these names
abbrev pub scripts_in : Files → List (List ℕ) → Result (List (List Line)) Stop
scripts_in files names = unless_stopped (inputs_in most_bytes files names) (meanings as_script)

abbrev pub loads_in : Files → List (List ℕ) → Result Loads Stop
loads_in files names = unless_stopped (inputs_in most_load_bytes files names) (meanings as_load)
