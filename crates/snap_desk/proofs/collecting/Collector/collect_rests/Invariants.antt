use Rattle.std.proofs.Common.{◌≡◌, ◌++◌, length, map}
use Rattle.std.specs.Vec.Iter.{into_iter_items, into_iter_len}
use Rattle.snap_desk.specs.Collecting.{Collects, GoesOnWriting, rests_from}
use Rattle.snap_desk.proofs.collecting.Collector.collect_rests.Given as goal

-- what waited at the first posts is written, or nothing more is
abbrev pub invariant-loop-rest : goal.invariant-loop-rest
invariant-loop-rest g l = record {
  items : l.yielded ++ into_iter_items l.rest-iterator ≡ l.fn.rests.items;
  length : into_iter_len l.rest-iterator ≡ length (into_iter_items l.rest-iterator);
  taker : l.self.taker ≡ l.fn.self.taker;
  collects : Collects l.fn.self l.self (rests_from 0 (map (λ r. r.items) l.yielded)) (g.S.Shelf.files l.fn.shelf) (g.S.Shelf.files l.shelf) (g.S.Shelf.write_faults l.fn.shelf) (g.S.Shelf.write_faults l.shelf);
  goes_on : GoesOnWriting g.S.Shelf.files g.S.Shelf.read_faults l.fn.self l.self l.fn.shelf l.shelf;
}
