use Rattle.snap_outlet.proofs.Rule.{posts}
use Rattle.snap_outlet.proofs.outlet.Outlet.send.Goals as goal

pub push_as-requires-clause-rule : goal.push_as-requires-clause-rule
push_as-requires-clause-rule g c n = posts n _ _ _ c.sender.invariant.2 c.sender.invariant.3
