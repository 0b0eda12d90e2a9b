use Rattle.std.proofs.Common.{rules}
use Rattle.snap_steps.specs.Asking.{about_of}
use Rattle.snap_steps.proofs.Keeps.Trying.{tries_next}
use Rattle.snap_steps.proofs.trying.try_next_word.Goals as goal

pub load-requires-clause-step : goal.load-requires-clause-step
load-requires-clause-step c = let t = c.requires.way in
    tries_next (about_of c.args.rows.now) c.args.rows.now.table.slots c.pass.inside.seat.id c.pass.inside.seat.me c.args.row c.args.field t.0 t.1 t.2 t.3 t.4 c.requires.row c.pass.invariant.pass.passing (search rules) t.6
