use Rattle.snap_outlet.proofs.Rule.{makes}
use Rattle.snap_outlet.proofs.outlet.Outlet.make.Goals as goal

pub another-pass-requires-clause-rule : goal.another-pass-requires-clause-rule
another-pass-requires-clause-rule c = makes _ _ c.taker.invariant.2
