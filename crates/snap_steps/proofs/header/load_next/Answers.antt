use Rattle.std.proofs.Common.{rules}
use Rattle.snap_steps.proofs.Keeps.Header.{loads_next}
use Rattle.snap_steps.proofs.header.load_next.Goals as goal

pub load-found-requires : goal.load-found-requires
load-found-requires c = (search rules, search rules, loads_next c.rows.inside.table.shared.key _ c.pass.inside.seat.id c.pass.inside.seat.me c.pass.invariant.pass.passing)
