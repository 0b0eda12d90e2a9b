use Rattle.std.proofs.Common.{rules, refl}
use Rattle.snap_steps.specs.Asking.{about_of}
use Rattle.snap_steps.specs.Steps.Births.{learnt}
use Rattle.snap_steps.proofs.Passing.{stays_pass, same_pairs}
use Rattle.snap_steps.proofs.Keeps.Copies.{loads_shared}
use Rattle.snap_steps.proofs.copies.load_shared.Goals as goal

pub load-requires-clause-step : goal.load-requires-clause-step
load-requires-clause-step c =
    loads_shared (about_of c.args.rows.now) c.args.rows.now.table.slots c.pass.inside.seat.id c.pass.inside.seat.me c.args.row c.args.field c.requires.row (search rules) (search rules)

pub invariant_of-pass : goal.invariant_of-pass
invariant_of-pass c = let t = c.load.ensures.step c.args.row c.args.field refl in let m = c.pass.inside.seat.me in let w = learnt m.0 c.args.row c.args.field c.load.result in
    stays_pass m c.load.new.seat.me w c.pass.inside.who c.pass.inside.uses c.pass.inside.added c.pass.inside.taken c.pass.inside.added c.pass.inside.taken c.pass.inside.owed c.pass.inside.owed c.pass.invariant.owed_is c.pass.invariant t refl refl refl refl (same_pairs m.0 w c.pass.inside.added c.pass.inside.taken refl refl c.pass.invariant.pairs)
