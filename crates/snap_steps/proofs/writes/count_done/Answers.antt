use Rattle.std.proofs.Common.{rules}
use Rattle.snap_steps.proofs.Keeps.Writes.{counts_done}
use Rattle.snap_steps.proofs.writes.count_done.Goals as goal

pub fetch_add-requires : goal.fetch_add-requires
fetch_add-requires c = (search rules, search rules, counts_done c.rows.inside.table.shared.key _ c.pass.inside.seat.id c.pass.inside.seat.me (search rules))
