use Rattle.std.proofs.Common.{rules, refl}
use Rattle.snap_steps.specs.Asking.{about_of}
use Rattle.snap_steps.specs.Steps.Locks.{unlocked}
use Rattle.snap_steps.proofs.Passing.{stays_pass, same_pairs}
use Rattle.snap_steps.proofs.Keeps.Locks.{frees}
use Rattle.snap_steps.proofs.locks.free_lock.Goals as goal

pub store-requires-clause-step : goal.store-requires-clause-step
store-requires-clause-step c =
    frees (about_of c.args.rows.now) c.args.rows.now.table.slots c.pass.inside.seat.id c.pass.inside.seat.me c.args.row c.requires.row (search rules) (search rules)

pub invariant_of-pass : goal.invariant_of-pass
invariant_of-pass c = let t = c.store.ensures.step c.args.row refl in stays_pass c.pass.inside.seat.me c.store.new.seat.me (unlocked c.pass.inside.seat.me.0 c.args.row) c.pass.inside.who c.pass.inside.uses c.pass.inside.added c.pass.inside.taken c.pass.inside.added c.pass.inside.taken c.pass.inside.owed c.pass.inside.owed c.pass.invariant.owed_is c.pass.invariant t refl refl refl refl (same_pairs c.pass.inside.seat.me.0 (unlocked c.pass.inside.seat.me.0 c.args.row) c.pass.inside.added c.pass.inside.taken refl refl c.pass.invariant.pairs)
