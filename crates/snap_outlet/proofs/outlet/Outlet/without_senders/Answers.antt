use Rattle.snap_outlet.proofs.Rule.{begins}
use Rattle.snap_outlet.proofs.outlet.Outlet.without_senders.Goals as goal

pub with_rule-requires : goal.with_rule-requires
with_rule-requires c = begins
