use Rattle.std.proofs.Common.{rules, refl, ◌+◌}
use Rattle.snap_steps.specs.Asking.{about_of}
use Rattle.snap_steps.specs.Steps.Rotating.{cleared}
use Rattle.snap_steps.specs.declared.view.View.{View}
use Rattle.snap_steps.proofs.Keeps.Rotating.{clears_mark}
use Rattle.snap_steps.proofs.Passing.{stays_pass, same_pairs}
use Rattle.snap_steps.proofs.Tallies.{tells_stay}
use Rattle.snap_steps.proofs.rotating.clear_shrinking.Goals as goal

pub store-requires-clause-step : goal.store-requires-clause-step
store-requires-clause-step c =
    clears_mark (about_of c.args.rows.now) c.args.rows.now.table.slots c.pass.inside.seat.id c.pass.inside.seat.me c.args.row c.args.stamp c.requires.row (search rules) (search rules)

pub invariant_of-pass : goal.invariant_of-pass
invariant_of-pass c =
    let m = c.pass.inside.seat.me in
    let v : View = cleared m.0 c.args.row (c.args.stamp + 2) in
    let told = c.store.ensures.step c.args.row (search rules) in
    stays_pass m c.store.new.seat.me v c.pass.inside.who c.pass.inside.uses c.pass.inside.added c.pass.inside.taken c.pass.inside.added c.pass.inside.taken c.pass.inside.owed (record { to_do = c.pass.inside.owed.to_do; listed = c.with_row-listed.result })
    (tells_stay c.pass.inside.owed m.0.debt c.with_row-listed.result c.args.row (c.args.stamp + 2) told.1 c.with_row-listed.ensures c.pass.invariant.owed_is)
    c.pass.invariant told.0 refl refl refl refl (same_pairs m.0 v c.pass.inside.added c.pass.inside.taken refl refl c.pass.invariant.pairs)
