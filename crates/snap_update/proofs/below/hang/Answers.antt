use Rattle.snap_prelude.specs.{link_field}
use Rattle.snap_update.proofs.{Entering.hangs, Trying.refuses_put}
use Rattle.snap_update.proofs.below.hang.Goals as goal

pub fill-requires-clause-row : goal.fill-requires-clause-row
fill-requires-clause-row g c = c.in-Ok.ensures.2.1

pub returns-in-Ok : goal.returns-in-Ok
returns-in-Ok g c = let e = c.link_leaf.ensures in let p = c.args.pair.now in let s = c.args.gap.now.at in
    hangs c.args.rows.now.rows c.args.pass.now c.draw.new.pass c.fill.new.pass c.link_leaf.new.pass c.in-Ok.leaf p.key p.value s.row (link_field s.side) e.0 c.in-Ok.ensures c.fill.ensures e.1 e.2

pub returns-in-Err : goal.returns-in-Err
returns-in-Err g c = let p = c.args.pair.now in refuses_put c.args.rows.now.rows c.args.pass.now c.draw.new.pass c.refuse.new.pass p.key p.value c.refuse.result c.in-Err.ensures.1 c.refuse.ensures
