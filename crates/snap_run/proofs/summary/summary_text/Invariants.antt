use Rattle.std.proofs.Common.{◌≡◌, ◌++◌, take, string_bytes}
use Rattle.snap_run.specs.Printed.{first_line, table_lines}
use Rattle.snap_run.proofs.summary.summary_text.Given as goal

-- the tables so far have their lines
abbrev pub invariant-loop-place : goal.invariant-loop-place
invariant-loop-place l = string_bytes l.text ≡ first_line l.fn.counts.scripts l.fn.counts.commands l.fn.counts.full ++ table_lines (take l.place l.tables) (take l.place l.fn.fronts)
