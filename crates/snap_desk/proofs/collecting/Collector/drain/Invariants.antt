use Rattle.snap_desk.specs.Collecting.{Drains, GoesOnWriting}
use Rattle.snap_desk.proofs.collecting.Collector.drain.Given as goal

-- what was taken so far is written, or nothing more is
abbrev pub invariant-loop : goal.invariant-loop
invariant-loop g l = (goal.iterator-loop g).can_next l.iterator' × (goal.iterator-loop g).is_finite l.iterator' × record {
  drains : Drains l.fn.self l.self (g.S.Shelf.files l.fn.shelf) (g.S.Shelf.files l.shelf) (g.S.Shelf.write_faults l.fn.shelf) (g.S.Shelf.write_faults l.shelf);
  goes_on : GoesOnWriting g.S.Shelf.files g.S.Shelf.read_faults l.fn.self l.self l.fn.shelf l.shelf;
}
