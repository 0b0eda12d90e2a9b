use Rattle.std.proofs.Common.{◌≡◌}
use Rattle.outlet_tests.proofs.order.take_of_running.Given as goal

abbrev pub invariant-loop-number : goal.invariant-loop-number
invariant-loop-number g l = l.taker.outlet ≡ l.outlet
