use Rattle.std.proofs.Common.{◌≡◌}
use Rattle.snap_prelude.specs.{after, count}
use Rattle.snap_view.proofs.Counts.{HasCounted}
use Rattle.snap_view.proofs.table_view.TableView.count.Given as goal

-- each pair was counted that has come
abbrev pub invariant-loop : goal.invariant-loop
invariant-loop l = goal.iterator-loop.can_next l.iterator' × goal.iterator-loop.is_finite l.iterator' × (l.self ≡ l.fn.self) × HasCounted (count (after l.fn.self.base) l.low l.high) l.found l.iterator'
