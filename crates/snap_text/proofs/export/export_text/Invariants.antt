use Rattle.std.proofs.Common.{Some, take}
use Rattle.std.specs.Io.KnownBytes.{Appends}
use Rattle.csv.specs.Writing.{text_written}
use Rattle.snap_text.specs.Csv.{IsBetweenRows}
use Rattle.snap_text.specs.Tables.{header_line, pair_lines}
use Rattle.snap_text.proofs.export.export_text.Given as goal

abbrev pub invariant-loop-pair : goal.invariant-loop-pair
invariant-loop-pair l =
    IsBetweenRows l.writer
    × Appends (Some header_line) (text_written (λ v. Some v.items) l.writer) (pair_lines (take l.pair-index l.fn.pairs))
