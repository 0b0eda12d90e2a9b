use Rattle.std.proofs.Common.{◌≡◌}
use Rattle.snap_prelude.specs.{image}
use Rattle.snap_view.proofs.{Seeking.Seeks, Within.levels_below}
use Rattle.snap_view.proofs.table_view.TableView.get_counted.Given as goal

-- the key is still looked for below here
abbrev pub invariant-loop-here : goal.invariant-loop-here
invariant-loop-here g l = (l.self ≡ l.fn.self) × Seeks (image l.fn.self) l.key l.here l.fn.steps l.steps

abbrev pub decreases-loop-here : goal.decreases-loop-here
decreases-loop-here g l = levels_below (image l.fn.self) l.here
