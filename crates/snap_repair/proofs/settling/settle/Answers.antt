use Rattle.std.proofs.Common.{◌∙◌, rules}
use Rattle.snap_repair.proofs.{Inner.stops_none, Inner.tries_after, Lifting.look_settled, Mending.mends_on}
use Rattle.snap_repair.proofs.{Lowering.child_by, Lowering.leans_by}
use Rattle.snap_repair.proofs.settling.settle.Goals as goal

pub tilt-requires-clause-leans : goal.tilt-requires-clause-leans
tilt-requires-clause-leans g c =
    let b = c.look_at-look.new.pass in
    leans_by c.args.rows.now.rows b.view c.args.edge.now.child.row c.look_at-look.result c.in-Some.higher (c.look_at-look.ensures.looks.0.held c.args.edge.now.child.row c.requires.edge.below.held) c.look_at-look.ensures.look c.in-Some.ensures

pub tilt-requires-clause-child : goal.tilt-requires-clause-child
tilt-requires-clause-child g c = child_by c.args.rows.now.rows c.look_at-look.new.pass.view c.args.edge.now.child.row c.look_at-look.result c.in-Some.higher c.look_at-look.ensures.look c.in-Some.ensures

pub returns-in-Some : goal.returns-in-Some
returns-in-Some g c = tries_after c.args.rows.now.rows c.args.pass.now c.look_at-look.new.pass c.tilt.new.pass c.tilt.result c.look_at-look.ensures.looks.0.mends c.look_at-look.ensures.looks.1 c.tilt.ensures

pub end_repair-requires-clause-settled : goal.end_repair-requires-clause-settled
end_repair-requires-clause-settled g c = look_settled c.look_at-look.new.pass.view c.args.edge.now.child.row c.args.rows.now.rows c.look_at-look.result c.look_at-look.ensures.look (c.may_end.ensures.settled (search rules))

pub end_repair-requires-clause-only : goal.end_repair-requires-clause-only
end_repair-requires-clause-only g c = c.may_end.ensures.only (search rules)

pub returns-then-may_end : goal.returns-then-may_end
returns-then-may_end g c =
    let a = c.args.pass.now in let b = c.look_at-look.new.pass in let e = c.end_repair.new.pass in
    stops_none c.args.rows.now.rows a e (mends_on a b e c.look_at-look.ensures.looks.0.mends c.end_repair.ensures.mends) (c.end_repair.ensures.holds ∙ c.look_at-look.ensures.looks.1)

pub returns : goal.returns
returns g c = stops_none c.args.rows.now.rows c.args.pass.now c.lift.new.pass (mends_on c.args.pass.now c.look_at-look.new.pass c.lift.new.pass c.look_at-look.ensures.looks.0.mends c.lift.ensures.keeps.mends) (c.lift.ensures.keeps.holds ∙ c.look_at-look.ensures.looks.1)
