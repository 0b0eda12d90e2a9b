use Rattle.std.proofs.Common.{◌≡◌, ◌≤◌, ◌-◌, length, vec_len}
use Rattle.std.specs.Prelude.{min}
use Rattle.snap_io.specs.Prelude.{OnlyReads}
use Rattle.snap_plan.specs.Reading.{IsFront}
use Rattle.snap_plan.specs.declared.reading.TheConstants.{PIECE}
use Rattle.snap_plan.proofs.reading.read_bytes.Given as goal

-- what is read so far is the front of the file, and no more than its size
abbrev pub invariant-pieces : goal.invariant-pieces
invariant-pieces g l = record {
  front : IsFront (g.S.Shelf.files l.fn.shelf) l.name l.bytes.items;
  no_more : length l.bytes.items ≤ l.size;
  room : length l.piece ≡ min l.size PIECE;
  only_reads : OnlyReads g.S.Shelf.files g.S.Shelf.read_faults g.S.Shelf.write_faults l.fn.shelf l.shelf;
}

abbrev pub decreases-pieces : goal.decreases-pieces
decreases-pieces g l = l.size - vec_len l.bytes
