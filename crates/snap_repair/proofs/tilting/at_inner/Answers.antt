use Rattle.std.proofs.Common.{◌∙◌, sym, subst}
use Rattle.snap_repair.proofs.Inner.{aimed_grip, aims_below, aims_mends, aims_next, held_row, mending_on, stops_none, tries_after}
use Rattle.snap_repair.proofs.Lowering.{child_edge, higher_looks, leans_looks}
use Rattle.snap_repair.proofs.Mending.{edge_looks, grip_looks, looks_on, mends_on}
use Rattle.snap_prelude.specs.{IsHeldRow, MayAimAt, other}
use Rattle.snap_repair.proofs.tilting.at_inner.Goals as goal

pub aim-requires-clause-held : goal.aim-requires-clause-held
aim-requires-clause-held c =
    let a = c.args.pass.now in let b = c.grip_of.new.pass in let d = c.look_at-look.new.pass in let s = looks_on a b d c.grip_of.ensures.looks c.look_at-look.ensures.looks in
    let t = c.args.turn.now in held_row d.view t.raised (grip_looks a d t.raised s c.requires.turn.lower.below)

pub aim-requires-clause-aims : goal.aim-requires-clause-aims
aim-requires-clause-aims c =
    let a = c.args.pass.now in let b = c.grip_of.new.pass in let d = c.look_at-look.new.pass in let s = looks_on a b d c.grip_of.ensures.looks c.look_at-look.ensures.looks in
    let t = c.args.turn.now in aims_below a d t.row t.raised t.side s c.requires.turn.lower c.requires.turn.upper.is_row c.requires.to_do

pub aim-requires-then-not-is_settled-clause-held : goal.aim-requires-then-not-is_settled-clause-held
aim-requires-then-not-is_settled-clause-held c =
    let a = c.args.pass.now in let b = c.grip_of.new.pass in let d = c.look_at-look.new.pass in let s = looks_on a b d c.grip_of.ensures.looks c.look_at-look.ensures.looks in let e = c.aim.new.pass in let raised = c.in-Some.raised in let t = c.args.turn.now in
    let grip = grip_looks b d raised c.look_at-look.ensures.looks c.in-Some.ensures.grip.1 in
    subst (λ r. IsHeldRow e.view r) c.in-Some.ensures.grip.0 (held_row e.view raised (aimed_grip d e t.raised.row t.raised.key raised c.aim.ensures grip))

pub aim-requires-then-not-is_settled-clause-aims : goal.aim-requires-then-not-is_settled-clause-aims
aim-requires-then-not-is_settled-clause-aims c =
    let a = c.args.pass.now in let b = c.grip_of.new.pass in let d = c.look_at-look.new.pass in let s = looks_on a b d c.grip_of.ensures.looks c.look_at-look.ensures.looks in let e = c.aim.new.pass in let raised = c.in-Some.raised in let t = c.args.turn.now in
    let low = c.requires.turn.lower in let grip = grip_looks b d raised c.look_at-look.ensures.looks c.in-Some.ensures.grip.1 in
    let inn = child_edge a b d t.raised (other t.side) c.args.inner raised s low.below low.is_row c.requires.leads grip c.in-Some.ensures.grip.0 c.requires.inner.0 c.requires.inner.1 in
    subst (λ r. MayAimAt e.view r) c.in-Some.ensures.grip.0 (aims_next d e t.raised raised (other t.side) c.aim.ensures inn low.is_row)

pub returns-then-not-is_settled : goal.returns-then-not-is_settled
returns-then-not-is_settled c =
    let a = c.args.pass.now in let b = c.grip_of.new.pass in let d = c.look_at-look.new.pass in let s = looks_on a b d c.grip_of.ensures.looks c.look_at-look.ensures.looks in let e = c.aim.new.pass in let f = c.aim-then-not-is_settled.new.pass in
    let m1 = aims_mends d e _ _ c.aim.ensures in let m2 = aims_mends e f _ _ c.aim-then-not-is_settled.ensures in
    stops_none c.args.rows.now.rows a f (mends_on a e f (mends_on a d e s.0.mends m1.0) m2.0) (m2.1 ∙ m1.1 ∙ s.1)

pub turn_twice-requires-clause-turn : goal.turn_twice-requires-clause-turn
turn_twice-requires-clause-turn c =
    let a = c.args.pass.now in let b = c.grip_of.new.pass in let d = c.look_at-look.new.pass in let s = looks_on a b d c.grip_of.ensures.looks c.look_at-look.ensures.looks in let t = c.args.turn.now in record {
      upper = edge_looks a d t.parent t.row t.parent_side s c.requires.turn.upper;
      lower = edge_looks a d t.row t.raised t.side s c.requires.turn.lower;
      apart = c.requires.turn.apart;
    }

pub turn_twice-requires-clause-inner : goal.turn_twice-requires-clause-inner
turn_twice-requires-clause-inner c =
    let a = c.args.pass.now in let b = c.grip_of.new.pass in let d = c.look_at-look.new.pass in let s = looks_on a b d c.grip_of.ensures.looks c.look_at-look.ensures.looks in let raised = c.in-Some.raised in let t = c.args.turn.now in
    let low = c.requires.turn.lower in let grip = grip_looks b d raised c.look_at-look.ensures.looks c.in-Some.ensures.grip.1 in
    child_edge a b d t.raised (other t.side) c.args.inner raised s low.below low.is_row c.requires.leads grip c.in-Some.ensures.grip.0 c.requires.inner.0 c.requires.inner.1

pub turn_twice-requires-clause-apart : goal.turn_twice-requires-clause-apart
turn_twice-requires-clause-apart c = let same = c.in-Some.ensures.grip.0 in ((λ z. c.requires.inner.2 (sym same ∙ sym z)), (λ z. c.requires.inner.3 (sym same ∙ sym z)))

pub returns : goal.returns
returns c =
    let a = c.args.pass.now in let b = c.grip_of.new.pass in let d = c.look_at-look.new.pass in let s = looks_on a b d c.grip_of.ensures.looks c.look_at-look.ensures.looks in
    tries_after c.args.rows.now.rows a d c.turn_twice.new.pass c.turn_twice.result s.0.mends s.1 c.turn_twice.ensures

pub turn_twice-requires-clause-mending : goal.turn_twice-requires-clause-mending
turn_twice-requires-clause-mending c =
    let a = c.args.pass.now in let b = c.grip_of.new.pass in let d = c.look_at-look.new.pass in let s = looks_on a b d c.grip_of.ensures.looks c.look_at-look.ensures.looks in
    mending_on a d s.0.mends c.requires.mending

pub turn_twice-requires-clause-leans : goal.turn_twice-requires-clause-leans
turn_twice-requires-clause-leans c =
    let a = c.args.pass.now in let b = c.grip_of.new.pass in let d = c.look_at-look.new.pass in let s = looks_on a b d c.grip_of.ensures.looks c.look_at-look.ensures.looks in
    leans_looks a d c.args.turn.now.row.row c.args.turn.now.side s c.requires.leans

pub turn_twice-requires-clause-higher : goal.turn_twice-requires-clause-higher
turn_twice-requires-clause-higher c =
    let a = c.args.pass.now in let b = c.grip_of.new.pass in let d = c.look_at-look.new.pass in let s = looks_on a b d c.grip_of.ensures.looks c.look_at-look.ensures.looks in
    higher_looks a d c.args.turn.now.raised.row (other c.args.turn.now.side) s c.requires.higher
