use Rattle.std.proofs.Common.{rules, ◌+◌, ◌%◌, ◌^◌}
use mathlib.Core.Option.{none}
use Rattle.snap_steps.proofs.Keeps.Gate.{enters}
use Rattle.snap_steps.proofs.gate.try_enter.Goals as goal

pub compare_exchange-was-requires : goal.compare_exchange-was-requires
compare_exchange-was-requires c = (search rules, search rules, enters c.rows.inside.table.shared.key _ c.pass.inside.seat.id c.pass.inside.seat.me c.args.found ((c.args.found + 2) % 2 ^ 64) none (search rules) (search rules) (search rules) (search rules) c.pass.invariant.pass.passing)
