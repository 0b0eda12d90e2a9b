use Rattle.std.proofs.Common.{rules, refl, None}
use Rattle.snap_model.specs.declared.call.Call.TheVariants.{Remove}
use Rattle.snap_model.specs.declared.call.Entry.{Entry}
use Rattle.snap_steps.specs.Asking.{about_of}
use Rattle.snap_steps.specs.Steps.Writes.{made_entry, entry_of}
use Rattle.snap_steps.specs.declared.view.View.{View}
use Rattle.snap_steps.proofs.Keeps.Writes.{confirms}
use Rattle.snap_steps.proofs.Passing.{stays_pass, no_pair}
use Rattle.snap_steps.proofs.writes.confirm_absent.Goals as goal

pub load_told-requires-clause-step : goal.load_told-requires-clause-step
load_told-requires-clause-step c =
    confirms (about_of c.args.rows.now) c.args.rows.now.table.slots c.pass.inside.seat.id c.pass.inside.seat.me c.args.row c.args.key c.requires.row c.pass.invariant.pass.passing (search rules) (search rules) (search rules) (search rules) (search rules)

pub invariant_of-pass : goal.invariant_of-pass
invariant_of-pass c =
    let m = c.pass.inside.seat.me in let t = c.load_told.ensures.step in let e : Entry = entry_of m.0.who (Remove c.args.key) None in
    let v : View = made_entry m.0 t.0 e in
    stays_pass m c.load_told.new.seat.me v c.pass.inside.who c.pass.inside.uses c.pass.inside.added c.pass.inside.taken c.pass.inside.added c.pass.inside.taken c.pass.inside.owed c.pass.inside.owed
    c.pass.invariant.owed_is
    c.pass.invariant t.2 refl refl refl refl (no_pair m.0 v e c.pass.inside.added c.pass.inside.taken refl refl refl refl c.pass.invariant.pairs)
