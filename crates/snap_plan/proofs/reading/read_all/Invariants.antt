use Rattle.snap_io.specs.Prelude.{OnlyReads}
use Rattle.snap_plan.proofs.Inputs.{HasRead}
use Rattle.snap_plan.proofs.reading.read_all.Given as goal

-- the files so far were read
abbrev pub invariant-loop-name : goal.invariant-loop-name
invariant-loop-name g l = record {
  read : HasRead (g.S.Shelf.files l.fn.shelf) l.most l.names l.name-index l.inputs.items;
  only_reads : OnlyReads g.S.Shelf.files g.S.Shelf.read_faults g.S.Shelf.write_faults l.fn.shelf l.shelf;
}
