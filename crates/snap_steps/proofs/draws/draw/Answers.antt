use Rattle.std.proofs.Common.{arith, ◌≢◌, ◌≤◌}
use Rattle.std.proofs.lemmas.Grind.{common_steps}
use Rattle.snap_steps.proofs.Drawings.{drawn_at_last, tried_again}
use Rattle.snap_steps.proofs.draws.draw.Goals as goal

pub returns-in-Ok : goal.returns-in-Ok
returns-in-Ok g c =
    let some : c.loop.found ≢ c.args.rows.now.rows = grind (arith, common_steps) in
    let low : c.in-Ok.row ≤ c.args.rows.now.rows = omega (arith, some, c.loop.invariant.2.low, c.in-Ok.ensures.ok.0) in
    drawn_at_last c.args.rows.now.rows c.loop.found c.in-Ok.row c.args.pass.now c.loop.pass c.try_draw.new.pass c.loop.invariant.2 some (omega (arith, c.in-Ok.ensures.ok.0), low) c.in-Ok.ensures.ok.1

pub loop-preserved : goal.loop-preserved
loop-preserved g c =
    let some : c.loop.found ≢ c.args.rows.now.rows = grind (arith, common_steps) in
    let e = c.in-Err.ensures.err in
    (tt, tt, tried_again c.args.rows.now.rows c.loop.found c.in-Err.other c.args.pass.now c.loop.pass c.try_draw.new.pass c.loop.invariant.2 some e.1 e.2)
