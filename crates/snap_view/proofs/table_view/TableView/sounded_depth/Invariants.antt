use Rattle.std.proofs.Common.{◌≡◌}
use Rattle.snap_prelude.specs.{image, Right}
use Rattle.snap_view.proofs.{Levels.HasSounded, Passing.keys_ahead}
use Rattle.snap_view.proofs.table_view.TableView.sounded_depth.Given as goal

-- the ways before the next key were gone
abbrev pub invariant-loop-next : goal.invariant-loop-next
invariant-loop-next l = (l.self ≡ l.fn.self) × HasSounded (image l.fn.self) l.next l.deepest

abbrev pub decreases-loop-next : goal.decreases-loop-next
decreases-loop-next l = keys_ahead Right l.next

abbrev pub ghosts-way_from : goal.ghosts-way_from
ghosts-way_from a = record { name = a.blank.name; parts = a.blank.parts }
