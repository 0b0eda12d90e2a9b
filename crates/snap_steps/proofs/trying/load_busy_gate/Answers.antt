use Rattle.std.proofs.Common.{rules}
use Rattle.snap_steps.proofs.Keeps.Trying.{finds_busy}
use Rattle.snap_steps.proofs.trying.load_busy_gate.Goals as goal

pub load-requires : goal.load-requires
load-requires c = (search rules, search rules, finds_busy c.rows.inside.table.shared.key _ c.pass.inside.seat.id c.pass.inside.seat.me)
