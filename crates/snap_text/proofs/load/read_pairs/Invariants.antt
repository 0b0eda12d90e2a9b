use Rattle.std.proofs.Common.{All, List}
use Rattle.csv.specs.Reading.{strip_bom}
use Rattle.snap_text.specs.Csv.{IsReading}
use Rattle.snap_text.specs.Loads.{Fields}
use Rattle.snap_text.specs.Numbers.{FitsValue}
use Rattle.snap_text.proofs.Loading.{AreHeaderAndPairs}
use Rattle.snap_text.proofs.load.read_pairs.Given as goal

abbrev pub invariant-loop-row : goal.invariant-loop-row
invariant-loop-row l = record {
  rows : List Fields;
  reading : IsReading (strip_bom l.fn.bytes) rows l.row-iterator;
  pairs : AreHeaderAndPairs rows l.pairs;
  in_range : All (λ pair. FitsValue pair.1) l.pairs;
}
