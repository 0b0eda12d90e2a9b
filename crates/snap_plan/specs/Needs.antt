-- What scripts need beside their commands: tables, load files, and files for their exports; and the
-- limits on these.
use Rattle.std.specs.Prelude.{◌≡◌, ℕ, nat_lt, Bool, false, List, [], ◌∷◌, ◌++◌, Option, Some, None, Result, Ok, Err, length, map, flat_map, fold, filter_map, codes, bytes_eq, if◌then◌else◌}
use Rattle.std.specs.List.{list_any}
use Rattle.snap_model.specs.declared.command.Command.{Command}
use Rattle.snap_model.specs.declared.command.Command.TheVariants as command
use Rattle.snap_text.specs.declared.script.Line.{Line}
use Rattle.snap_plan.specs.declared.needs.Limit.{Limit}
use Rattle.snap_plan.specs.declared.needs.Limit.TheVariants.{OutputTaken, TooManyTables, TooManyLoads}
use Rattle.snap_plan.specs.declared.stop.Stop.{Stop}
use Rattle.snap_plan.specs.declared.stop.Stop.TheVariants as stop

-- the most tables and load files of a run
abbrev pub most_tables : ℕ
most_tables = 8

abbrev pub most_loads : ℕ
most_loads = 8

-- the commands of a script, and of scripts one after another
abbrev pub commands_of : List Line → List Command
commands_of lines = map (λ line. line.command) lines

abbrev pub all_commands : List (List Line) → List Command
all_commands scripts = flat_map commands_of scripts

-- the table, the load file, and the file for an export that a command names
abbrev pub table_in : Command → Option (List ℕ)
table_in (command.Table name) = Some name
table_in _ = None

abbrev pub load_in : Command → Option (List ℕ)
load_in (command.Load file) = Some file
load_in _ = None

abbrev pub export_in : Command → Option (List ℕ)
export_in (command.Export slot lo hi file) = Some file
export_in _ = None

-- the name is one of these
abbrev pub among : List (List ℕ) → List ℕ → Bool
among names name = list_any (λ known. bytes_eq known name) names

-- a name stands behind the others where it is new
abbrev pub with_name : List (List ℕ) → List ℕ → List (List ℕ)
with_name names name = if among names name then names else names ++ name ∷ []

-- the tables in the order in which they are first named, after the one on which each session begins
abbrev pub main_table : List ℕ
main_table = codes "main"

abbrev pub tables_named : List Command → List (List ℕ)
tables_named cs = fold with_name (main_table ∷ []) (filter_map table_in cs)

-- the load files in the order in which they are first named, and the files for exports in their
-- order
abbrev pub loads_named : List Command → List (List ℕ)
loads_named cs = fold with_name [] (filter_map load_in cs)

abbrev pub exports_named : List Command → List (List ℕ)
exports_named cs = filter_map export_in cs

-- the limit that a command passes, behind the commands before it, where files of these names are
-- taken
abbrev pub limit_of : List (List ℕ) → List Command → Command → Option Limit
limit_of taken before (command.Table name) =
    if nat_lt most_tables (length (with_name (tables_named before) name)) then Some TooManyTables
    else None
limit_of taken before (command.Load file) =
    if nat_lt most_loads (length (with_name (loads_named before) file)) then Some TooManyLoads
    else None
limit_of taken before (command.Export slot lo hi file) =
    if among (taken ++ exports_named before) file then Some OutputTaken else None
limit_of taken before _ = None

-- the lines of scripts one after another, each with its script's name
abbrev pub NamedLine : Type 0
NamedLine = List ℕ × Line

abbrev pub named_lines : List (List ℕ) → List (List Line) → List NamedLine
named_lines (name ∷ names) (lines ∷ scripts) =
    map (λ line. (name, line)) lines ++ named_lines names scripts
named_lines _ _ = []

-- the stop at the first line that passes a limit, where these commands stand before the lines
abbrev pub stop_at : NamedLine → Option Limit → Option Stop → Option Stop
stop_at at None below = below
stop_at at (Some limit) below = Some (stop.Limit at.0 at.1.line limit)

abbrev pub passed_from : List (List ℕ) → List Command → List NamedLine → Option Stop
passed_from taken before [] = None
passed_from taken before (at ∷ below) =
    stop_at at (limit_of taken before at.1.command)
    (passed_from taken (before ++ at.1.command ∷ []) below)

-- the stop at the first line of the scripts that passes a limit
unfoldable pub passed_in : List (List ℕ) → List (List ℕ) → List (List Line) → Option Stop
passed_in taken names scripts = passed_from taken [] (named_lines names scripts)

-- the scripts, unless a line of theirs passes a limit
abbrev pub unless_passed : List (List Line) → Option Stop → Result (List (List Line)) Stop
unless_passed scripts None = Ok scripts
unless_passed scripts (Some stop) = Err stop

-- each name is new behind those that were seen and those before it
abbrev pub AllNew : List (List ℕ) → List (List ℕ) → Type 0
AllNew seen [] = Unit {0}
AllNew seen (name ∷ names) = (among seen name ≡ false) × AllNew (seen ++ name ∷ []) names
