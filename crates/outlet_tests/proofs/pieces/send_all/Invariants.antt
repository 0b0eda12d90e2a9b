use Rattle.std.proofs.Common.{◌≡◌}
use Rattle.outlet_tests.proofs.pieces.send_all.Given as goal

abbrev pub invariant-loop-number : goal.invariant-loop-number
invariant-loop-number g l = l.sender.outlet ≡ l.outlet
