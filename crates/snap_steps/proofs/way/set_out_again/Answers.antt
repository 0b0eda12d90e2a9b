use Rattle.snap_stamp.specs.Layout.{word_at}
use Rattle.snap_stamp.specs.declared.layout.Field.TheVariants.{Stamp}
use Rattle.snap_steps.specs.Asking.{about_of}
use Rattle.snap_steps.proofs.Keeps.Way.{sets_out_again}
use Rattle.snap_steps.proofs.way.set_out_again.Goals as goal

pub load_told-requires-clause-step : goal.load_told-requires-clause-step
load_told-requires-clause-step c =
    sets_out_again (about_of c.args.rows.now) c.args.rows.now.table.slots c.pass.inside.seat.id c.pass.inside.seat.me c.args.key (word_at 0 Stamp)
