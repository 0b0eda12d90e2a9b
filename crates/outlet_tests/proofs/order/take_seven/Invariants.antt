use Rattle.std.proofs.Common.{◌≡◌}
use Rattle.outlet_tests.proofs.order.take_seven.Given as goal

abbrev pub invariant-loop : goal.invariant-loop
invariant-loop g l = l.taker.outlet ≡ l.outlet
