use Rattle.std.proofs.Common.{◌≡◌}
use Rattle.snap_prelude.specs.{image}
use Rattle.snap_view.proofs.{Looking.MeetsAt, Within.levels_below}
use Rattle.snap_view.proofs.table_view.TableView.look_down.Given as goal

-- the way goes on below here, and has noted the rows ahead on it
abbrev pub invariant-loop-here : goal.invariant-loop-here
invariant-loop-here g l = (l.self ≡ l.fn.self) × MeetsAt (image l.fn.self) l.fn.row l.side l.from l.here l.fn.ahead l.ahead

abbrev pub decreases-loop-here : goal.decreases-loop-here
decreases-loop-here g l = levels_below (image l.fn.self) l.here
