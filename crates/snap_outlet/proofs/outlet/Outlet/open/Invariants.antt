use Rattle.std.proofs.Common.{◌≡◌}
use Rattle.snap_outlet.specs.Outlets.{new_senders, new_taker}
use Rattle.snap_outlet.proofs.outlet.Outlet.open.Given as goal

abbrev pub invariant-loop-number : goal.invariant-loop-number
invariant-loop-number l = (l.taker ≡ new_taker l.outlet l.number) × (l.made.items ≡ new_senders l.outlet l.number)
