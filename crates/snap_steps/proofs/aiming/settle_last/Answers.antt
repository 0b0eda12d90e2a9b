use Rattle.std.proofs.Common.{rules, sym, subst}
use Rattle.snap_stamp.specs.Layout.{word_at}
use Rattle.snap_stamp.specs.declared.layout.Field.TheVariants.{Height}
use Rattle.snap_steps.specs.Asking.{about_of}
use Rattle.snap_steps.specs.Owed.{ListsOnly}
use Rattle.snap_steps.specs.Seen.{Known}
use Rattle.snap_steps.proofs.Keeps.Aiming.{settles_last}
use Rattle.snap_steps.proofs.aiming.settle_last.Goals as goal

pub load-requires-clause-step : goal.load-requires-clause-step
load-requires-clause-step c =
    settles_last (about_of c.args.rows.now) c.args.rows.now.table.slots c.pass.inside.seat.id c.pass.inside.seat.me (word_at c.args.row Height) c.args.row (search rules) (search rules) (search rules) (search rules) (subst (λ (k : Known). ListsOnly c.args.row k.view.debt.list) (sym c.pass.view_is) c.requires.only) (search rules)
