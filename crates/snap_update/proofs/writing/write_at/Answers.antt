use Rattle.std.proofs.Common.{ℕ, ◌≤◌, ◌∙◌, sym, subst}
use Rattle.snap_prelude.specs.{call_key}
use Rattle.snap_search.specs.Prelude.{IsReached}
use Rattle.snap_update.specs.Held.{IsAtWork}
use Rattle.snap_update.proofs.{Going.at_work, Holding.held_once, Trying.attempts_at, Trying.ends_locked}
use Rattle.snap_update.proofs.{Trying.place_low, Trying.place_reached, Trying.rests_at}
use Rattle.snap_update.proofs.writing.write_at.Goals as goal

pub lock-requires-clause-row : goal.lock-requires-clause-row
lock-requires-clause-row g c = let f = c.args.found.now in
    subst (λ (r : ℕ). r ≤ c.args.rows.now.rows) (sym c.row-row.ensures) (place_low c.args.rows.now.rows c.args.pass.now.view (call_key c.args.call.now) f.epoch f.place c.requires.place)

pub lock-requires-clause-reached : goal.lock-requires-clause-reached
lock-requires-clause-reached g c = let f = c.args.found.now in
    subst (IsReached c.args.pass.now.view) (sym c.row-row.ensures) (place_reached c.args.rows.now.rows c.args.pass.now.view (call_key c.args.call.now) f.epoch f.place c.requires.place)

pub write_held-attempt-requires-clause-at_work : goal.write_held-attempt-requires-clause-at_work
write_held-attempt-requires-clause-at_work g c = let key = call_key c.args.call.now in
    subst (λ (r : ℕ). IsAtWork c.lock.new.pass.view r key) c.row-row.ensures (at_work c.args.pass.now c.lock.new.pass key c.row-row.result c.requires.ready c.lock.ensures)

pub write_held-attempt-requires-clause-place : goal.write_held-attempt-requires-clause-place
write_held-attempt-requires-clause-place g c = let f = c.args.found.now in
    ends_locked c.args.rows.now.rows c.args.pass.now c.lock.new.pass (call_key c.args.call.now) f.epoch c.row-row.result f.place c.lock.ensures c.requires.place

pub unlock-requires-clause-held : goal.unlock-requires-clause-held
unlock-requires-clause-held g c = let key = call_key c.args.call.now in let b = c.write_held-attempt.new.pass in
    let rests = rests_at c.args.rows.now.rows c.lock.new.pass b c.args.call.now c.args.found.now.place c.write_held-attempt.result c.write_held-attempt.ensures in
    held_once b.view.holds c.row-row.result (rests.0 ∙ (at_work c.args.pass.now c.lock.new.pass key c.row-row.result c.requires.ready c.lock.ensures).held)

pub unlock-requires-clause-whole : goal.unlock-requires-clause-whole
unlock-requires-clause-whole g c = let key = call_key c.args.call.now in
    let rests = rests_at c.args.rows.now.rows c.lock.new.pass c.write_held-attempt.new.pass c.args.call.now c.args.found.now.place c.write_held-attempt.result c.write_held-attempt.ensures in
    rests.1 ∙ (at_work c.args.pass.now c.lock.new.pass key c.row-row.result c.requires.ready c.lock.ensures).whole

pub returns : goal.returns
returns g c = let f = c.args.found.now in
    attempts_at c.args.rows.now.rows c.args.pass.now c.lock.new.pass c.write_held-attempt.new.pass c.unlock.new.pass c.row-row.result c.args.call.now f.place c.write_held-attempt.result c.lock.ensures c.write_held-attempt.ensures c.unlock.ensures c.requires.ready.free
