use Rattle.std.proofs.Common.{rules}
use Rattle.snap_steps.proofs.Keeps.Trying.{begins}
use Rattle.snap_steps.proofs.trying.begin_try.Goals as goal

pub load-requires : goal.load-requires
load-requires c = (search rules, search rules, begins c.rows.inside.table.shared.key _ c.pass.inside.seat.id c.pass.inside.seat.me)
