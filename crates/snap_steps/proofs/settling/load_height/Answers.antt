use Rattle.std.proofs.Common.{rules, refl}
use Rattle.snap_steps.specs.Asking.{about_of}
use Rattle.snap_steps.specs.Steps.Settling.{height_read}
use Rattle.snap_steps.specs.declared.view.View.{View}
use Rattle.snap_steps.proofs.Keeps.Heights.{loads_height}
use Rattle.snap_steps.proofs.Passing.{stays_pass, same_pairs}
use Rattle.snap_steps.proofs.settling.load_height.Goals as goal

pub load_told-requires-clause-step : goal.load_told-requires-clause-step
load_told-requires-clause-step c =
    loads_height (about_of c.args.rows.now) c.args.rows.now.table.slots c.pass.inside.seat.id c.pass.inside.seat.me c.args.row c.args.side c.args.child c.requires.child.1 c.requires.child.0 (search rules) (search rules) (search rules) (search rules)

pub invariant_of-pass : goal.invariant_of-pass
invariant_of-pass c =
    let m = c.pass.inside.seat.me in
    let v : View = height_read m.0 c.args.row c.args.side c.args.child c.load_told.result in
    stays_pass m c.load_told.new.seat.me v c.pass.inside.who c.pass.inside.uses c.pass.inside.added c.pass.inside.taken c.pass.inside.added c.pass.inside.taken c.pass.inside.owed c.pass.inside.owed
    c.pass.invariant.owed_is
    c.pass.invariant c.load_told.ensures.step refl refl refl refl (same_pairs m.0 v c.pass.inside.added c.pass.inside.taken refl refl c.pass.invariant.pairs)
