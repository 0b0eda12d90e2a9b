use Rattle.std.proofs.Common.{rules, ap}
use Rattle.snap_steps.specs.Roles.{is_live}
use Rattle.snap_steps.proofs.Keeps.Clones.{seats_kept}
use Rattle.snap_steps.proofs.clones.split_view.Goals as goal

pub split_seat-requires : goal.split_seat-requires
split_seat-requires c = (search rules, search rules, seats_kept c.rows.inside.table.shared.key c.pass.inside.seat.id c.pass.inside.seat.me.0 (ap is_live c.pass.invariant.pass.passing))
