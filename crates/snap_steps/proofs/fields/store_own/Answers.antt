use Rattle.std.proofs.Common.{rules}
use Rattle.snap_steps.specs.Asking.{about_of}
use Rattle.snap_steps.proofs.Keeps.Fields.{stores_own}
use Rattle.snap_steps.proofs.fields.store_own.Goals as goal

pub store-requires-clause-step : goal.store-requires-clause-step
store-requires-clause-step c =
    stores_own (about_of c.args.rows.now) c.args.rows.now.table.slots c.pass.inside.seat.id c.pass.inside.seat.me c.args.row c.args.word c.args.field c.requires.row c.requires.field.0 c.requires.field.1 (search rules)
