use Rattle.std.proofs.Common.{rules, ◌+◌}
use mathlib.Core.Option.{none}
use Rattle.snap_steps.proofs.Keeps.Gate.{closes}
use Rattle.snap_steps.proofs.gate.try_close.Goals as goal

pub compare_exchange-was-requires : goal.compare_exchange-was-requires
compare_exchange-was-requires c = (search rules, search rules, closes c.rows.inside.table.shared.key _ c.pass.inside.seat.id c.pass.inside.seat.me c.args.found (c.args.found + 1) none (search rules) (search rules) (search rules) (search rules) c.pass.invariant.pass.passing)
