use Rattle.std.proofs.Common.{◌≡◌}
use Rattle.snap_prelude.specs.{after, at, image}
use Rattle.snap_view.specs.Ahead.{AreAheadOf}
use Rattle.snap_view.proofs.Passing.{HasPassed, keys_ahead}
use Rattle.snap_view.proofs.table_view.TableView.next_pair.Given as goal

-- no pair stands before the next key, and the rows ahead are those from it on
abbrev pub invariant-loop-next : goal.invariant-loop-next
invariant-loop-next g l = (l.self ≡ l.fn.self) × HasPassed (at (after l.fn.self.base)) l.side l.from l.next × AreAheadOf l.side l.next (image l.fn.self) l.ahead

abbrev pub decreases-loop-next : goal.decreases-loop-next
decreases-loop-next g l = keys_ahead l.side l.next
