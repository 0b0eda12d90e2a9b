use Rattle.std.proofs.Common.{◌≡◌, ◌∙◌, rules, ap, refl, ◌∷◌, []}
use Rattle.snap_repair.proofs.Lowering.{child_tilt, edge_owned, leans_on, times_none, tries_locked}
use Rattle.snap_prelude.specs.{times}
use Rattle.snap_shape.proofs.Shaping.{born, own_row}
use Rattle.snap_repair.proofs.tilting.tilt.Goals as goal

pub own_lower-requires-clause-writing : goal.own_lower-requires-clause-writing
own_lower-requires-clause-writing g c = c.requires.mending.writing

pub own_lower-requires-clause-live : goal.own_lower-requires-clause-live
own_lower-requires-clause-live g c =
    let v = c.args.pass.now.view in let o = own_row v c.args.leaning.now.edge.child c.requires.edge.is_row c.requires.edge.below in (o.reached, born v c.args.leaning.now.edge.child c.requires.edge.below o)

pub own_lower-requires-clause-tilt : goal.own_lower-requires-clause-tilt
own_lower-requires-clause-tilt g c = let r = c.args.leaning.now.edge.child.row in (r, child_tilt c.args.pass.now.view r c.args.leaning.now.higher c.requires.leans c.requires.child)

pub at_child-why-requires-clause-edge : goal.at_child-why-requires-clause-edge
at_child-why-requires-clause-edge g c =
    let a = c.args.pass.now in let b = c.own_lower.new.pass in let d = c.lock.new.pass in let e = c.args.leaning.now.edge in
    edge_owned c.args.rows.now.rows a b d e.child c.args.leaning.now.higher c.in-Ok.child c.in-Ok.child e.parent e.child e.side c.requires.edge.apart c.in-Ok.ensures c.lock.ensures c.requires.edge

pub at_child-why-requires-clause-leans : goal.at_child-why-requires-clause-leans
at_child-why-requires-clause-leans g c =
    let a = c.args.pass.now in let b = c.own_lower.new.pass in let d = c.lock.new.pass in
    leans_on c.args.rows.now.rows a b d c.args.leaning.now.edge.child c.args.leaning.now.higher c.in-Ok.child c.in-Ok.child c.requires.leans c.in-Ok.ensures c.lock.ensures

pub returns : goal.returns
returns g c =
    let a = c.args.pass.now in let b = c.own_lower.new.pass in let d = c.lock.new.pass in let n = c.args.leaning.now.edge.child.row in let p = c.args.leaning.now.edge.parent.row in
    let free : times c.in-Ok.child a.view.holds ≡ 0 = ap (times c.in-Ok.child) c.requires.two ∙ times_none c.in-Ok.child n (p ∷ []) (search rules) (times_none c.in-Ok.child p [] (search rules) refl) in
    tries_locked c.args.rows.now.rows a b d c.at_child-why.new.pass c.unlock.new.pass c.in-Ok.child c.at_child-why.result c.in-Ok.ensures.firm.mends c.in-Ok.ensures.holds free c.lock.ensures c.at_child-why.ensures c.unlock.ensures
