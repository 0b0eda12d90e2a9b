use Rattle.std.proofs.Common.{rules, ap}
use Rattle.snap_steps.specs.Roles.{is_live}
use Rattle.snap_steps.specs.declared.view.View.{View}
use Rattle.snap_steps.proofs.Keeps.Clones.{seats_kept}
use Rattle.snap_steps.proofs.clones.twin.Goals as goal

pub split_seat-requires : goal.split_seat-requires
split_seat-requires c = (search rules, search rules, seats_kept c.rows.inside.table.shared.key c.seat.inside.seat.id c.seat.inside.seat.me.0 (ap (λ (x : View). is_live x.role) c.seat.invariant.viewing))
