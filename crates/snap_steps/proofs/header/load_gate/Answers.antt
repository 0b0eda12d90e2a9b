use Rattle.std.proofs.Common.{rules}
use Rattle.snap_steps.proofs.Keeps.Header.{loads_gate}
use Rattle.snap_steps.proofs.header.load_gate.Goals as goal

pub load-requires : goal.load-requires
load-requires c = (search rules, search rules, loads_gate c.rows.inside.table.shared.key _ c.pass.inside.seat.id c.pass.inside.seat.me)
