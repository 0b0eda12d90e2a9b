use Rattle.std.proofs.Common.{◌≡◌}
use Rattle.snap_prelude.specs.{image}
use Rattle.snap_view.proofs.{Seeking.Descends, Within.levels_below}
use Rattle.snap_view.proofs.table_view.TableView.way_down.Given as goal

-- the way goes on below here
abbrev pub invariant-loop-here : goal.invariant-loop-here
invariant-loop-here g l = (l.self ≡ l.fn.self) × Descends (image l.fn.self) l.side l.from l.here l.way l.fn.steps l.steps

abbrev pub decreases-loop-here : goal.decreases-loop-here
decreases-loop-here g l = levels_below (image l.fn.self) l.here
