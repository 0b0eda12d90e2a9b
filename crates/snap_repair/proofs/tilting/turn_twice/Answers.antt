use Rattle.std.proofs.Common.{◌≡◌, ◌∙◌, ◌<◌, ℕ, Option, None, MatchOption, sym, subst, ap, rules, inr}
use Rattle.snap_repair.proofs.Inner.{dropped_edge, may_lower, mending_on, ready_again, rotation_mends, stops_none, stops_worn}
use Rattle.snap_repair.proofs.Mending.{edge_looks, mends_on}
use Rattle.snap_repair.specs.{Answers.IsWornOut, Raising.Lifts, Raising.TurnsNear}
use Rattle.snap_shape.specs.{Grips.edge_at, Grips.IsEdge, Grips.IsTurning, Grips.turn_at, Shapes.later, Shapes.MayRotate, Shapes.Rotates}
use Rattle.snap_shape.specs.{declared.grip.Grip.Grip, declared.grip.Turn.Turn}
use Rattle.snap_prelude.specs.{count_of, last_count, other, Side}
use Rattle.snap_repair.proofs.tilting.turn_twice.Goals as goal

pub returns-in-Some : goal.returns-in-Some
returns-in-Some c =
    let s = c.worn_row.ensures.looks in stops_worn c.args.rows.now.rows c.args.pass.now c.worn_row.new.pass c.in-Some.worn c.of.result c.of.ensures s.1 c.in-Some.ensures.worn s.0.mends

pub lower_row-requires-clause-count : goal.lower_row-requires-clause-count
lower_row-requires-clause-count c =
    let t = c.args.turn.now in let a = c.args.pass.now in let none : c.worn_row.result ≡ None = search rules in
    let few = subst (λ (o : Option ℕ). MatchOption o ((count_of t.raised.stamp < last_count) × (count_of t.row.stamp < last_count)) (λ r. IsWornOut a c.worn_row.new.pass c.worn_row.new.pass r)) none c.worn_row.ensures.worn in
    subst (λ (x : Turn). count_of x.row.stamp < last_count) (sym c.turn_of-second.ensures) few.1

pub rotate-lowered-requires : goal.rotate-lowered-requires
rotate-lowered-requires c =
    let t = c.args.turn.now in let raised = c.args.raised.now in let q = c.requires in let a = c.args.pass.now in let e = c.worn_row.new.pass in let s = c.worn_row.ensures.looks in let none : c.worn_row.result ≡ None = search rules in
    let is : c.turn_of-first.result ≡ turn_at t.row t.side t.raised (other t.side) raised = c.turn_of-first.ensures ∙ ap (λ (d : Side). turn_at t.row t.side t.raised d raised) c.other.ensures in
    let few = subst (λ (o : Option ℕ). MatchOption o ((count_of t.raised.stamp < last_count) × (count_of t.row.stamp < last_count)) (λ r. IsWornOut a e e r)) none c.worn_row.ensures.worn in
    subst (λ (x : Turn). MayRotate c.args.rows.now e x t.raised.key) (sym is) (may_lower c.args.rows.now a e t raised q.table q.mending q.rows s q.turn q.inner q.apart.0 q.to_do few.0)

pub drop_lowered-requires-clause-mending : goal.drop_lowered-requires-clause-mending
drop_lowered-requires-clause-mending c =
    let t = c.args.turn.now in let raised = c.args.raised.now in let q = c.requires.turn in let a = c.args.pass.now in let e = c.worn_row.new.pass in let s = c.worn_row.ensures.looks in let f = c.rotate-lowered.new.pass in
    let is : c.turn_of-first.result ≡ turn_at t.row t.side t.raised (other t.side) raised = c.turn_of-first.ensures ∙ ap (λ (d : Side). turn_at t.row t.side t.raised d raised) c.other.ensures in
    let r : Rotates e f (turn_at t.row t.side t.raised (other t.side) raised) = subst (Rotates e f) is c.rotate-lowered.ensures.turned in
    let row : c.rotate-lowered.result ≡ later t.raised = c.rotate-lowered.ensures.row ∙ ap (λ (x : Turn). later x.row) is in
    let m = rotation_mends a e f t.row t.raised raised t.side c.requires.mending.whole s r in mending_on a f m.0 c.requires.mending

pub drop_lowered-requires-clause-edge : goal.drop_lowered-requires-clause-edge
drop_lowered-requires-clause-edge c =
    let t = c.args.turn.now in let raised = c.args.raised.now in let q = c.requires.turn in let a = c.args.pass.now in let e = c.worn_row.new.pass in let s = c.worn_row.ensures.looks in let f = c.rotate-lowered.new.pass in
    let is : c.turn_of-first.result ≡ turn_at t.row t.side t.raised (other t.side) raised = c.turn_of-first.ensures ∙ ap (λ (d : Side). turn_at t.row t.side t.raised d raised) c.other.ensures in
    let r : Rotates e f (turn_at t.row t.side t.raised (other t.side) raised) = subst (Rotates e f) is c.rotate-lowered.ensures.turned in
    let row : c.rotate-lowered.result ≡ later t.raised = c.rotate-lowered.ensures.row ∙ ap (λ (x : Turn). later x.row) is in
    subst (λ (x : Grip). IsEdge f.view (edge_at raised t.side x)) (sym row) (dropped_edge e f t.row t.raised raised t.side (edge_looks a e t.row t.raised t.side s q.lower) (edge_looks a e t.raised raised (other t.side) s c.requires.inner) r)

pub returns-then-not-drop_lowered : goal.returns-then-not-drop_lowered
returns-then-not-drop_lowered c =
    let t = c.args.turn.now in let raised = c.args.raised.now in let q = c.requires.turn in let a = c.args.pass.now in let e = c.worn_row.new.pass in let s = c.worn_row.ensures.looks in let f = c.rotate-lowered.new.pass in
    let is : c.turn_of-first.result ≡ turn_at t.row t.side t.raised (other t.side) raised = c.turn_of-first.ensures ∙ ap (λ (d : Side). turn_at t.row t.side t.raised d raised) c.other.ensures in
    let r : Rotates e f (turn_at t.row t.side t.raised (other t.side) raised) = subst (Rotates e f) is c.rotate-lowered.ensures.turned in
    let row : c.rotate-lowered.result ≡ later t.raised = c.rotate-lowered.ensures.row ∙ ap (λ (x : Turn). later x.row) is in let h = c.drop_lowered.new.pass in
    let l : Lifts f h raised (later t.raised) = subst (Lifts f h raised) row c.drop_lowered.ensures.keeps in
    let z = ready_again a e f h t raised c.requires.mending.whole s q c.requires.inner c.requires.apart.0 c.requires.apart.1 r l in
    stops_none c.args.rows.now.rows a h z.mends z.holds

pub lower_row-requires-clause-mending : goal.lower_row-requires-clause-mending
lower_row-requires-clause-mending c =
    let t = c.args.turn.now in let raised = c.args.raised.now in let q = c.requires.turn in let a = c.args.pass.now in let e = c.worn_row.new.pass in let s = c.worn_row.ensures.looks in let f = c.rotate-lowered.new.pass in
    let is : c.turn_of-first.result ≡ turn_at t.row t.side t.raised (other t.side) raised = c.turn_of-first.ensures ∙ ap (λ (d : Side). turn_at t.row t.side t.raised d raised) c.other.ensures in
    let r : Rotates e f (turn_at t.row t.side t.raised (other t.side) raised) = subst (Rotates e f) is c.rotate-lowered.ensures.turned in
    let row : c.rotate-lowered.result ≡ later t.raised = c.rotate-lowered.ensures.row ∙ ap (λ (x : Turn). later x.row) is in let h = c.drop_lowered.new.pass in
    let l : Lifts f h raised (later t.raised) = subst (Lifts f h raised) row c.drop_lowered.ensures.keeps in
    let z = ready_again a e f h t raised c.requires.mending.whole s q c.requires.inner c.requires.apart.0 c.requires.apart.1 r l in
    mending_on a h z.mends c.requires.mending

pub lower_row-requires-clause-turn : goal.lower_row-requires-clause-turn
lower_row-requires-clause-turn c =
    let t = c.args.turn.now in let raised = c.args.raised.now in let q = c.requires.turn in let a = c.args.pass.now in let e = c.worn_row.new.pass in let s = c.worn_row.ensures.looks in let f = c.rotate-lowered.new.pass in
    let is : c.turn_of-first.result ≡ turn_at t.row t.side t.raised (other t.side) raised = c.turn_of-first.ensures ∙ ap (λ (d : Side). turn_at t.row t.side t.raised d raised) c.other.ensures in
    let r : Rotates e f (turn_at t.row t.side t.raised (other t.side) raised) = subst (Rotates e f) is c.rotate-lowered.ensures.turned in
    let row : c.rotate-lowered.result ≡ later t.raised = c.rotate-lowered.ensures.row ∙ ap (λ (x : Turn). later x.row) is in let h = c.drop_lowered.new.pass in
    let l : Lifts f h raised (later t.raised) = subst (Lifts f h raised) row c.drop_lowered.ensures.keeps in
    let z = ready_again a e f h t raised c.requires.mending.whole s q c.requires.inner c.requires.apart.0 c.requires.apart.1 r l in
    subst (IsTurning h.view) (sym c.turn_of-second.ensures) z.turning

pub lower_row-requires-clause-aims : goal.lower_row-requires-clause-aims
lower_row-requires-clause-aims c =
    let t = c.args.turn.now in let raised = c.args.raised.now in let q = c.requires.turn in let a = c.args.pass.now in let e = c.worn_row.new.pass in let s = c.worn_row.ensures.looks in let f = c.rotate-lowered.new.pass in
    let is : c.turn_of-first.result ≡ turn_at t.row t.side t.raised (other t.side) raised = c.turn_of-first.ensures ∙ ap (λ (d : Side). turn_at t.row t.side t.raised d raised) c.other.ensures in
    let r : Rotates e f (turn_at t.row t.side t.raised (other t.side) raised) = subst (Rotates e f) is c.rotate-lowered.ensures.turned in
    let row : c.rotate-lowered.result ≡ later t.raised = c.rotate-lowered.ensures.row ∙ ap (λ (x : Turn). later x.row) is in let h = c.drop_lowered.new.pass in
    let l : Lifts f h raised (later t.raised) = subst (Lifts f h raised) row c.drop_lowered.ensures.keeps in
    let z = ready_again a e f h t raised c.requires.mending.whole s q c.requires.inner c.requires.apart.0 c.requires.apart.1 r l in
    subst (λ (x : Turn). TurnsNear h.view x.parent.row x.row.row x.raised.row raised.key) (sym c.turn_of-second.ensures) (inr (z.turning.lower.below.is_key, c.drop_lowered.ensures.to_do (search rules)))

pub returns : goal.returns
returns c =
    let t = c.args.turn.now in let raised = c.args.raised.now in let q = c.requires.turn in let a = c.args.pass.now in let e = c.worn_row.new.pass in let s = c.worn_row.ensures.looks in let f = c.rotate-lowered.new.pass in
    let is : c.turn_of-first.result ≡ turn_at t.row t.side t.raised (other t.side) raised = c.turn_of-first.ensures ∙ ap (λ (d : Side). turn_at t.row t.side t.raised d raised) c.other.ensures in
    let r : Rotates e f (turn_at t.row t.side t.raised (other t.side) raised) = subst (Rotates e f) is c.rotate-lowered.ensures.turned in
    let row : c.rotate-lowered.result ≡ later t.raised = c.rotate-lowered.ensures.row ∙ ap (λ (x : Turn). later x.row) is in let h = c.drop_lowered.new.pass in
    let l : Lifts f h raised (later t.raised) = subst (Lifts f h raised) row c.drop_lowered.ensures.keeps in
    let z = ready_again a e f h t raised c.requires.mending.whole s q c.requires.inner c.requires.apart.0 c.requires.apart.1 r l in let k = c.lower_row.ensures in
    stops_none c.args.rows.now.rows a c.lower_row.new.pass (mends_on a h c.lower_row.new.pass z.mends k.mends) (k.holds ∙ z.holds)
