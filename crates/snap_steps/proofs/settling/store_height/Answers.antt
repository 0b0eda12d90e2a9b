use Rattle.std.proofs.Common.{rules, refl, ap}
use Rattle.snap_stamp.specs.declared.layout.Field.TheVariants.{Stamp}
use Rattle.snap_steps.specs.Asking.{about_of}
use Rattle.snap_steps.specs.Facts.{word_in}
use Rattle.snap_steps.specs.Roles.{is_live}
use Rattle.snap_steps.specs.Steps.Settling.{heightened}
use Rattle.snap_steps.specs.declared.view.View.{View}
use Rattle.snap_steps.proofs.Keeps.Raising.{raises}
use Rattle.snap_steps.proofs.Passing.{stays_pass, same_pairs}
use Rattle.snap_steps.proofs.Tallies.{tells_height}
use Rattle.snap_steps.proofs.settling.store_height.Goals as goal

pub store_told-requires-clause-step : goal.store_told-requires-clause-step
store_told-requires-clause-step c =
    raises (about_of c.args.rows.now) c.args.rows.now.table.slots c.pass.inside.seat.id c.pass.inside.seat.me c.args.parent c.args.side c.args.row c.args.key c.args.height c.requires.row (ap is_live c.pass.invariant.pass.passing) (search rules) (search rules) (search rules) (search rules) (search rules)

pub invariant_of-pass : goal.invariant_of-pass
invariant_of-pass c =
    let m = c.pass.inside.seat.me in
    let v : View = heightened m.0 c.args.parent c.args.row c.args.key c.args.height in
    stays_pass m c.store_told.new.seat.me v c.pass.inside.who c.pass.inside.uses c.pass.inside.added c.pass.inside.taken c.pass.inside.added c.pass.inside.taken c.pass.inside.owed (record { to_do = c.to_do_or-to_do.result; listed = c.with_row-listed.result })
    (tells_height c.pass.inside.owed m.0.debt c.to_do_or-to_do.result c.with_row-listed.result c.args.key c.args.key c.args.parent c.args.parent (word_in m.0.words.knows c.args.parent Stamp) refl refl c.to_do_or-to_do.ensures c.with_row-listed.ensures c.pass.invariant.owed_is)
    c.pass.invariant c.store_told.ensures.step refl refl refl refl (same_pairs m.0 v c.pass.inside.added c.pass.inside.taken refl refl c.pass.invariant.pairs)
