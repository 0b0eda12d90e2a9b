use Rattle.snap_outlet.proofs.Rule.{gathers}
use Rattle.snap_outlet.proofs.outlet.Outlet.gather.Goals as goal

pub absorb-requires-clause-rule : goal.absorb-requires-clause-rule
absorb-requires-clause-rule c = gathers _ _ _ _ c.taker.invariant.2 c.receipt.invariant.2
