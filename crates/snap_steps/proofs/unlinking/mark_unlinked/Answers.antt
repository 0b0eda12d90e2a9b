use Rattle.std.proofs.Common.{rules, refl, ap, ◌+◌}
use Rattle.snap_rule.specs.Debt.Lists.{taken}
use Rattle.snap_stamp.specs.declared.layout.Field.TheVariants.{Stamp}
use Rattle.snap_steps.specs.Asking.{about_of}
use Rattle.snap_steps.specs.Facts.{word_in}
use Rattle.snap_steps.specs.Owed.{NamesEach}
use Rattle.snap_steps.specs.Roles.{is_live}
use Rattle.snap_steps.specs.Steps.Debts.{listing}
use Rattle.snap_steps.specs.Steps.Unlinking.{unlinked}
use Rattle.snap_steps.specs.declared.view.View.{View}
use Rattle.snap_steps.proofs.Keeps.Unlinking.{unlinks}
use Rattle.snap_steps.proofs.Passing.{stays_pass, same_pairs}
use Rattle.snap_steps.proofs.Tallies.{tells_aimed, with_covers, without_covers}
use Rattle.snap_steps.proofs.unlinking.mark_unlinked.Goals as goal

pub store_told-requires-clause-step : goal.store_told-requires-clause-step
store_told-requires-clause-step c =
    unlinks (about_of c.args.rows.now) c.args.rows.now.table.slots c.pass.inside.seat.id c.pass.inside.seat.me c.args.parent c.args.side c.args.row c.args.only c.args.parent_key c.args.stamp c.requires.row (ap is_live c.pass.invariant.pass.passing) (search rules) (search rules) (search rules) c.requires.count.0 (search rules) (search rules) (search rules)

pub invariant_of-pass : goal.invariant_of-pass
invariant_of-pass c =
    let m = c.pass.inside.seat.me in let x = word_in m.0.words.knows c.args.parent Stamp in let l = listing c.args.parent x m.0.debt.list in
    let more : NamesEach c.with_row-listed.result l = with_covers c.pass.inside.owed.listed c.with_row-listed.result c.args.parent x m.0.debt.list c.with_row-listed.ensures c.pass.invariant.owed_is.rows in
    let v : View = unlinked m.0 c.args.parent c.args.side c.args.row c.args.only c.args.parent_key (c.args.stamp + 1) in
    stays_pass m c.store_told.new.seat.me v c.pass.inside.who c.pass.inside.uses c.pass.inside.added c.pass.inside.taken c.pass.inside.added c.pass.inside.taken c.pass.inside.owed c.at-owed.result
    (tells_aimed c.at-owed.result c.args.parent c.args.parent c.args.parent_key c.args.parent_key c.without-fewer.result (taken c.args.row l) refl refl c.at-owed.ensures
    (without_covers c.with_row-listed.result c.without-fewer.result c.args.row l c.without-fewer.ensures more))
    c.pass.invariant c.store_told.ensures.step refl refl refl refl (same_pairs m.0 v c.pass.inside.added c.pass.inside.taken refl refl c.pass.invariant.pairs)
