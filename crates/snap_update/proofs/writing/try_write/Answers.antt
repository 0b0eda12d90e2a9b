use Rattle.std.proofs.Common.{ℕ, [], subst}
use Rattle.snap_prelude.specs.{call_key}
use Rattle.snap_search.specs.Prelude.{Finds}
use Rattle.snap_search.proofs.Keeping.{way_stays}
use Rattle.snap_update.proofs.Going.{goes_works, still_ready}
use Rattle.snap_update.proofs.Trying.{attempt_reached, found, tries_at}
use Rattle.snap_update.proofs.writing.try_write.Goals as goal

pub write_at-requires-clause-ready : goal.write_at-requires-clause-ready
write_at-requires-clause-ready g c =
    let key : ℕ = call_key c.args.call.now in let f = c.find_for_write-found.result in
    let w = subst (λ (k : ℕ). Finds c.args.rows.now.rows c.args.pass.now c.find_for_write-found.new.pass k f) c.key_of.ensures c.find_for_write-found.ensures.finds in
    let l = found key f.epoch w.counted w.births in still_ready c.args.pass.now c.find_for_write-found.new.pass key [] l c.requires.ready (goes_works c.args.pass.now c.find_for_write-found.new.pass key l w.works)

pub write_at-requires-clause-epoch : goal.write_at-requires-clause-epoch
write_at-requires-clause-epoch g c = c.find_for_write-found.ensures.finds.now

pub write_at-requires-clause-place : goal.write_at-requires-clause-place
write_at-requires-clause-place g c =
    (subst (λ (k : ℕ). Finds c.args.rows.now.rows c.args.pass.now c.find_for_write-found.new.pass k c.find_for_write-found.result) c.key_of.ensures c.find_for_write-found.ensures.finds).at

pub returns-clause-tries : goal.returns-clause-tries
returns-clause-tries g c =
    let f = c.find_for_write-found.result in
    tries_at c.args.rows.now.rows c.args.pass.now c.find_for_write-found.new.pass c.write_at.new.pass c.args.call.now c.write_at.result f.place f.epoch (subst (λ (k : ℕ). Finds c.args.rows.now.rows c.args.pass.now c.find_for_write-found.new.pass k f) c.key_of.ensures c.find_for_write-found.ensures.finds) c.write_at.ensures

pub returns-clause-way : goal.returns-clause-way
returns-clause-way g c = way_stays c.args.rows.now.rows c.find_for_write-found.new.pass.view c.write_at.new.pass.view c.find_for_write-found.new.way (attempt_reached c.args.rows.now.rows c.find_for_write-found.new.pass c.write_at.new.pass c.args.call.now c.find_for_write-found.result.place c.write_at.result c.write_at.ensures) c.find_for_write-found.ensures.way
