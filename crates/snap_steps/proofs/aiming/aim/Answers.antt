use Rattle.std.proofs.Common.{rules, refl}
use Rattle.snap_steps.specs.Asking.{about_of}
use Rattle.snap_steps.specs.Steps.Settling.{aimed_view}
use Rattle.snap_steps.specs.declared.view.View.{View}
use Rattle.snap_steps.proofs.Keeps.Aiming.{aims}
use Rattle.snap_steps.proofs.Passing.{stays_pass, same_pairs}
use Rattle.snap_steps.proofs.Tallies.{tells_aimed}
use Rattle.snap_steps.proofs.aiming.aim.Goals as goal

pub load_told-requires-clause-step : goal.load_told-requires-clause-step
load_told-requires-clause-step c =
    aims (about_of c.args.rows.now) c.args.rows.now.table.slots c.pass.inside.seat.id c.pass.inside.seat.me c.args.row c.args.key c.requires.row (search rules) (search rules) (search rules) (search rules)

pub invariant_of-pass : goal.invariant_of-pass
invariant_of-pass c =
    let m = c.pass.inside.seat.me in
    let v : View = aimed_view m.0 c.args.row c.args.key c.load_told.result in
    stays_pass m c.load_told.new.seat.me v c.pass.inside.who c.pass.inside.uses c.pass.inside.added c.pass.inside.taken c.pass.inside.added c.pass.inside.taken c.pass.inside.owed c.at-owed.result
    (tells_aimed c.at-owed.result c.args.row c.args.row c.args.key c.args.key c.pass.inside.owed.listed m.0.debt.list refl refl c.at-owed.ensures c.pass.invariant.owed_is.rows)
    c.pass.invariant c.load_told.ensures.step refl refl refl refl (same_pairs m.0 v c.pass.inside.added c.pass.inside.taken refl refl c.pass.invariant.pairs)
