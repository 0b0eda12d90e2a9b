use Rattle.std.proofs.Common.{◌≡◌, ◌≤◌, take}
use Rattle.snap_io.specs.Shelves.{Changes}
use Rattle.snap_write.specs.Outputs.{HasWritten, blank}
use Rattle.snap_write.proofs.writing.create_all.Given as goal

-- the files so far are made
abbrev pub invariant-loop-file : goal.invariant-loop-file
invariant-loop-file g l = record {
  written : Changes (g.S.Shelf.files l.fn.shelf) (g.S.Shelf.files l.shelf) (HasWritten (take l.file-index (blank l.files)));
  later : g.S.Shelf.write_faults l.fn.shelf ≤ g.S.Shelf.write_faults l.shelf;
  reads : g.S.Shelf.read_faults l.shelf ≡ g.S.Shelf.read_faults l.fn.shelf;
}
