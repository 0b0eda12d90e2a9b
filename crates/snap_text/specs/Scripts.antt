-- Scripts: the commands of a text with their lines, or the first fault.
use Rattle.std.specs.Prelude.{ℕ, ◌+◌, ◌||◌, nat_lt, Bool, List, [], ◌∷◌, Option, Some, None, Result, Ok, Err, length, if◌then◌else◌}
use Rattle.snap_model.specs.declared.command.Command.{Command}
use Rattle.snap_text.specs.declared.fault.LineKind.{LineKind}
use Rattle.snap_text.specs.declared.fault.ScriptFault.{ScriptFault}
use Rattle.snap_text.specs.declared.fault.ScriptFault.TheVariants as fault
use Rattle.snap_text.specs.declared.script.Line.{Line}
use Rattle.snap_text.specs.Clones.{Slots, all_free}
use Rattle.snap_text.specs.Grammar.{line_of}
use Rattle.snap_text.specs.Lines.{lines, words}

-- the most bytes and lines of a script
abbrev pub most_bytes : ℕ
most_bytes = 4_194_304

abbrev pub most_lines : ℕ
most_lines = 100_000

abbrev pub is_too_long : List ℕ → Bool
is_too_long bytes = nat_lt most_bytes (length bytes) || nat_lt most_lines (length (lines bytes))

-- a command in line n, before the script of the lines below it
abbrev pub with_command : ℕ → Option Command → Result (List Line) ScriptFault
    → Result (List Line) ScriptFault
with_command n None below = below
with_command n (Some command) (Err other) = Err other
with_command n (Some command) (Ok below) = Ok (record { line = n; command = command } ∷ below)

-- what line n does, before the script of the lines below it, which the clones that are live after
-- line n decide
abbrev pub with_line : ℕ → Result (Option Command × Slots) LineKind
    → (Slots → Result (List Line) ScriptFault) → Result (List Line) ScriptFault
with_line n (Err kind) below = Err (fault.Line n kind)
with_line n (Ok does) below = with_command n does.0 (below does.1)

-- the script of lines that are counted from n while these clones are live, or the first line that
-- is refused
abbrev pub script_from : ℕ → Slots → List (List ℕ) → Result (List Line) ScriptFault
script_from n slots [] = Ok []
script_from n slots (line ∷ below) =
    with_line n (line_of (words line) slots) (λ later. script_from (n + 1) later below)

-- the script of a text: each command with the number of its line, where skipped lines count too
unfoldable pub script_of : List ℕ → Result (List Line) ScriptFault
script_of bytes =
    if is_too_long bytes then Err fault.TooLong else script_from 1 all_free (lines bytes)
