use Rattle.std.proofs.Common.{rules, refl}
use Rattle.snap_rule.specs.Debt.Lists.{taken}
use Rattle.snap_stamp.specs.Layout.{word_at}
use Rattle.snap_stamp.specs.declared.layout.Field.TheVariants.{Height}
use Rattle.snap_steps.specs.Asking.{about_of}
use Rattle.snap_steps.specs.Steps.Settling.{passed_up}
use Rattle.snap_steps.specs.declared.view.View.{View}
use Rattle.snap_steps.proofs.Keeps.Aiming.{passes_up}
use Rattle.snap_steps.proofs.Passing.{stays_pass, same_pairs}
use Rattle.snap_steps.proofs.Tallies.{tells_aimed, without_covers}
use Rattle.snap_steps.proofs.aiming.pass_up.Goals as goal

pub load_told-requires-clause-step : goal.load_told-requires-clause-step
load_told-requires-clause-step c =
    passes_up (about_of c.args.rows.now) c.args.rows.now.table.slots c.pass.inside.seat.id c.pass.inside.seat.me (word_at c.args.row Height) c.args.parent c.args.side c.args.row c.args.key c.args.parent_key (search rules) (search rules) (search rules) (search rules) (search rules) (search rules)

pub invariant_of-pass : goal.invariant_of-pass
invariant_of-pass c =
    let m = c.pass.inside.seat.me in
    let v : View = passed_up m.0 c.args.parent c.args.parent_key c.args.row in
    stays_pass m c.load_told.new.seat.me v c.pass.inside.who c.pass.inside.uses c.pass.inside.added c.pass.inside.taken c.pass.inside.added c.pass.inside.taken c.pass.inside.owed c.at-owed.result
    (tells_aimed c.at-owed.result c.args.parent c.args.parent c.args.parent_key c.args.parent_key c.without-listed.result (taken c.args.row m.0.debt.list) refl refl c.at-owed.ensures
    (without_covers c.pass.inside.owed.listed c.without-listed.result c.args.row m.0.debt.list c.without-listed.ensures c.pass.invariant.owed_is.rows))
    c.pass.invariant c.load_told.ensures.step refl refl refl refl (same_pairs m.0 v c.pass.inside.added c.pass.inside.taken refl refl c.pass.invariant.pairs)
