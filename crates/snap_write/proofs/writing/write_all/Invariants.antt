use Rattle.std.proofs.Common.{◌≡◌, ◌≤◌, take}
use Rattle.snap_io.specs.Shelves.{Changes}
use Rattle.snap_write.specs.Outputs.{HasWritten}
use Rattle.snap_write.proofs.writing.write_all.Given as goal

-- the files so far are written
abbrev pub invariant-loop-output : goal.invariant-loop-output
invariant-loop-output g l = record {
  written : Changes (g.S.Shelf.files l.fn.shelf) (g.S.Shelf.files l.shelf) (HasWritten (take l.output-index l.outputs));
  later : g.S.Shelf.write_faults l.fn.shelf ≤ g.S.Shelf.write_faults l.shelf;
  reads : g.S.Shelf.read_faults l.shelf ≡ g.S.Shelf.read_faults l.fn.shelf;
}
