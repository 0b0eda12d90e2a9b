use Rattle.std.proofs.Common.{rules}
use mathlib.Core.Option.{none}
use Rattle.snap_steps.proofs.Keeps.Draws.{draws}
use Rattle.snap_steps.proofs.draws.try_draw.Goals as goal

pub compare_exchange-was-requires : goal.compare_exchange-was-requires
compare_exchange-was-requires c = (search rules, search rules, draws c.rows.inside.table.shared.key _ c.pass.inside.seat.id c.pass.inside.seat.me c.args.found none (search rules) c.pass.invariant.pass.passing)
