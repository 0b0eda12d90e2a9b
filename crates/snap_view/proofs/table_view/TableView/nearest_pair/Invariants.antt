use Rattle.std.proofs.Common.{◌≡◌}
use Rattle.snap_prelude.specs.{after, at, image}
use Rattle.snap_view.proofs.{Blanks.HasSpent, Passing.HasPassed, Passing.keys_ahead}
use Rattle.snap_view.proofs.table_view.TableView.nearest_pair.Given as goal

-- no pair stands before the next key, and one way down at most was gone
abbrev pub invariant-loop-next : goal.invariant-loop-next
invariant-loop-next g l = (l.self ≡ l.fn.self) × HasPassed (at (after l.fn.self.base)) l.side l.from l.next × HasSpent (image l.fn.self) l.side l.from l.next l.fn.steps l.steps

abbrev pub decreases-loop-next : goal.decreases-loop-next
decreases-loop-next g l = keys_ahead l.side l.next
