use Rattle.std.proofs.Common.{rules}
use Rattle.snap_steps.proofs.Keeps.Header.{loads_left}
use Rattle.snap_steps.proofs.header.load_left.Goals as goal

pub load-requires : goal.load-requires
load-requires c = (search rules, search rules, loads_left c.rows.inside.table.shared.key _ c.pass.inside.seat.id c.pass.inside.seat.me)
