use Rattle.snap_repair.proofs.{Inner.mending_on, GoingUp.goes_after, GoingUp.goes_by_way}
use Rattle.snap_repair.proofs.rising.next_row.Goals as goal

pub returns-in-Some-clause-goes : goal.returns-in-Some-clause-goes
returns-in-Some-clause-goes g c = goes_by_way c.args.rows.now.rows c.args.pass.now c.near_row.new.pass c.args.key c.in-Some.end c.near_row.ensures.looks c.in-Some.ensures.row

pub find_to_repair-requires-clause-writing : goal.find_to_repair-requires-clause-writing
find_to_repair-requires-clause-writing g c = (mending_on c.args.pass.now c.near_row.new.pass c.near_row.ensures.looks.0.mends c.requires.mending).writing

pub returns-clause-goes : goal.returns-clause-goes
returns-clause-goes g c = goes_after c.args.rows.now.rows c.args.pass.now c.near_row.new.pass c.find_to_repair.new.pass c.args.key c.find_to_repair.result c.near_row.ensures.looks c.find_to_repair.ensures.finds
