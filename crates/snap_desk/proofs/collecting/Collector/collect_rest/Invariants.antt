use Rattle.std.proofs.Common.{◌≡◌, ◌++◌, ℕ, List, length}
use Rattle.snap_outlet.specs.Posts.{parcels}
use Rattle.snap_outlet.specs.declared.piece.Piece.{Piece}
use Rattle.snap_desk.specs.Collecting.{Collects, GoesOnWriting}
use Rattle.snap_desk.proofs.collecting.Collector.collect_rest.Given as goal

-- the pieces in front are written, or nothing more is
abbrev pub invariant-loop-piece : goal.invariant-loop-piece
invariant-loop-piece g l = record {
  taker : l.self.taker ≡ l.fn.self.taker;
  collects : (done : List Piece) × (done ++ l.left.items ≡ l.fn.rest.items) × ((sender : ℕ) → Collects l.fn.self l.self (parcels sender done) (g.S.Shelf.files l.fn.shelf) (g.S.Shelf.files l.shelf) (g.S.Shelf.write_faults l.fn.shelf) (g.S.Shelf.write_faults l.shelf));
  goes_on : GoesOnWriting g.S.Shelf.files g.S.Shelf.read_faults l.fn.self l.self l.fn.shelf l.shelf;
}

abbrev pub decreases-loop-piece : goal.decreases-loop-piece
decreases-loop-piece g l = length l.left.items
