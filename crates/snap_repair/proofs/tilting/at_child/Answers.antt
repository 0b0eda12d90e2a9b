use Rattle.std.proofs.Common.{Bool, ◌∙◌, sym, subst, rules, inl}
use Rattle.snap_repair.proofs.Inner.{aims_mends, stops_none, stops_worn, tries_after, worn_after, worn_out}
use Rattle.snap_repair.proofs.Lowering.{child_edge, higher_by, leans_looks}
use Rattle.snap_repair.proofs.Mending.{edge_looks, grip_looks, looks_on, mends_on}
use Rattle.snap_repair.specs.{Answers.FindsWorn, Answers.Turns, Lowering.HasChildOn, Lowering.IsHigher}
use Rattle.snap_prelude.specs.{Leans, other}
use Rattle.snap_shape.specs.{Grips.IsTurning, declared.grip.Turn.Turn}
use Rattle.snap_repair.proofs.tilting.at_child.Goals as goal

pub returns-then-not-is_settled : goal.returns-then-not-is_settled
returns-then-not-is_settled g c =
    let a = c.args.pass.now in let b = c.grip_of.new.pass in let d = c.look_at-look.new.pass in let s = looks_on a b d c.grip_of.ensures.looks c.look_at-look.ensures.looks in let e = c.aim.new.pass in
    let m = aims_mends d e c.args.child c.in-Some.lower.key c.aim.ensures in stops_none c.args.rows.now.rows a e (mends_on a d e s.0.mends m.0) (m.1 ∙ s.1)

pub tilt_inner-requires-clause-turn : goal.tilt_inner-requires-clause-turn
tilt_inner-requires-clause-turn g c =
    let a = c.args.pass.now in let b = c.grip_of.new.pass in let d = c.look_at-look.new.pass in let s = looks_on a b d c.grip_of.ensures.looks c.look_at-look.ensures.looks in
    let up = edge_looks a d c.args.leaning.now.edge.parent c.args.leaning.now.edge.child c.args.leaning.now.edge.side s c.requires.edge in
    let low = child_edge a b d c.args.leaning.now.edge.child c.args.leaning.now.higher c.args.child c.in-Some.lower s c.requires.edge.below c.requires.edge.is_row c.requires.leads (grip_looks b d c.in-Some.lower c.look_at-look.ensures.looks c.in-Some.ensures.grip.1) c.in-Some.ensures.grip.0 c.requires.child.0 c.requires.child.1 in
    subst (IsTurning d.view) (sym c.turn_of-turn.ensures) (record { upper = up; lower = low; apart = λ z. c.requires.child.2 (sym c.in-Some.ensures.grip.0 ∙ sym z) })

pub tilt_inner-requires-clause-leans : goal.tilt_inner-requires-clause-leans
tilt_inner-requires-clause-leans g c =
    let a = c.args.pass.now in let b = c.grip_of.new.pass in let d = c.look_at-look.new.pass in let s = looks_on a b d c.grip_of.ensures.looks c.look_at-look.ensures.looks in
    subst (λ (t : Turn). Leans d.view t.row.row t.side) (sym c.turn_of-turn.ensures) (leans_looks a d c.args.leaning.now.edge.child.row c.args.leaning.now.higher s c.requires.leans)

pub tilt_inner-requires-clause-inner : goal.tilt_inner-requires-clause-inner
tilt_inner-requires-clause-inner g c =
    let d = c.look_at-look.new.pass in
    subst (λ (t : Turn). IsHigher d.view t.raised.row (other t.side) × HasChildOn d.view t.raised.row (other t.side)) (sym c.turn_of-turn.ensures) (higher_by c.args.rows.now.rows d.view c.in-Some.lower.row c.look_at-look.result c.args.leaning.now.higher c.look_at-look.ensures.look (search rules))

pub returns-then-inner-outer : goal.returns-then-inner-outer
returns-then-inner-outer g c =
    let a = c.args.pass.now in let b = c.grip_of.new.pass in let d = c.look_at-look.new.pass in let s = looks_on a b d c.grip_of.ensures.looks c.look_at-look.ensures.looks in
    tries_after c.args.rows.now.rows a d c.tilt_inner.new.pass c.tilt_inner.result s.0.mends s.1 c.tilt_inner.ensures

pub turn_row-requires-clause-turn : goal.turn_row-requires-clause-turn
turn_row-requires-clause-turn g c =
    let a = c.args.pass.now in let b = c.grip_of.new.pass in let d = c.look_at-look.new.pass in let s = looks_on a b d c.grip_of.ensures.looks c.look_at-look.ensures.looks in
    let up = edge_looks a d c.args.leaning.now.edge.parent c.args.leaning.now.edge.child c.args.leaning.now.edge.side s c.requires.edge in
    let low = child_edge a b d c.args.leaning.now.edge.child c.args.leaning.now.higher c.args.child c.in-Some.lower s c.requires.edge.below c.requires.edge.is_row c.requires.leads (grip_looks b d c.in-Some.lower c.look_at-look.ensures.looks c.in-Some.ensures.grip.1) c.in-Some.ensures.grip.0 c.requires.child.0 c.requires.child.1 in
    subst (IsTurning d.view) (sym c.turn_of-turn.ensures) (record { upper = up; lower = low; apart = λ z. c.requires.child.2 (sym c.in-Some.ensures.grip.0 ∙ sym z) })

pub returns-then-turn_row : goal.returns-then-turn_row
returns-then-turn_row g c =
    let a = c.args.pass.now in let b = c.grip_of.new.pass in let d = c.look_at-look.new.pass in let s = looks_on a b d c.grip_of.ensures.looks c.look_at-look.ensures.looks in let e = c.turn_row.new.pass in
    let k = subst (λ (t : Bool). Turns d e c.turn_of-turn.result t) c.if-turn_row.true c.turn_row.ensures in
    stops_none c.args.rows.now.rows a e (mends_on a d e s.0.mends k.mends) (k.holds ∙ s.1)

pub returns-else-turn_row : goal.returns-else-turn_row
returns-else-turn_row g c =
    let a = c.args.pass.now in let b = c.grip_of.new.pass in let d = c.look_at-look.new.pass in let s = looks_on a b d c.grip_of.ensures.looks c.look_at-look.ensures.looks in let e = c.turn_row.new.pass in let n = c.args.leaning.now.edge.child.row in
    let found = subst (λ (t : Turn). FindsWorn d e t.row.row) c.turn_of-turn.ensures (subst (λ (t : Bool). Turns d e c.turn_of-turn.result t) c.if-turn_row.false c.turn_row.ensures) in
    let w = worn_after a d e n s found in
    stops_worn c.args.rows.now.rows a e n c.of.result c.of.ensures w.looks.1 (worn_out a e n w (inl (c.args.leaning.now.higher, leans_looks a e n c.args.leaning.now.higher w.looks c.requires.leans))) w.looks.0.mends
