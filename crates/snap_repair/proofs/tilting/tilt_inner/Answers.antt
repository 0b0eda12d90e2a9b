use Rattle.std.proofs.Common.{◌≡◌, ◌∙◌, rules, sym, subst, ap, refl, ◌∷◌, []}
use Rattle.snap_repair.proofs.Lowering.{edge_owned, higher_owned, inner_tilt, lacks_tries, leans_past, times_none, tries_locked}
use Rattle.snap_prelude.specs.{IsTilt, Side, times}
use Rattle.snap_repair.specs.Lowering.{IsHigher}
use Rattle.snap_shape.proofs.Shaping.{born, own_row}
use Rattle.snap_repair.proofs.tilting.tilt_inner.Goals as goal

pub own_lower-requires-clause-writing : goal.own_lower-requires-clause-writing
own_lower-requires-clause-writing g c = c.requires.mending.writing

pub own_lower-requires-clause-live : goal.own_lower-requires-clause-live
own_lower-requires-clause-live g c =
    let v = c.args.pass.now.view in let t = c.args.turn.now in let low = c.requires.turn.lower in let o = own_row v t.raised low.is_row low.below in (o.reached, born v t.raised low.below o)

pub own_lower-requires-clause-tilt : goal.own_lower-requires-clause-tilt
own_lower-requires-clause-tilt g c =
    let v = c.args.pass.now.view in let t = c.args.turn.now in
    (t.row.row, subst (λ (s : Side). IsTilt v t.row.row t.raised.row s) (sym c.other-inward.ensures) (inner_tilt v t.row t.raised t.side c.requires.leans c.requires.turn.lower c.requires.inner.1))

pub at_inner-why-requires-clause-turn : goal.at_inner-why-requires-clause-turn
at_inner-why-requires-clause-turn g c =
    let a = c.args.pass.now in let b = c.own_lower.new.pass in let d = c.lock.new.pass in let t = c.args.turn.now in let q = c.requires.turn in record {
      upper = edge_owned c.args.rows.now.rows a b d t.raised c.other-inward.result c.in-Ok.inner c.in-Ok.inner t.parent t.row t.parent_side q.apart c.in-Ok.ensures c.lock.ensures q.upper;
      lower = edge_owned c.args.rows.now.rows a b d t.raised c.other-inward.result c.in-Ok.inner c.in-Ok.inner t.row t.raised t.side q.lower.apart c.in-Ok.ensures c.lock.ensures q.lower;
      apart = q.apart;
    }

pub at_inner-why-requires-clause-leans : goal.at_inner-why-requires-clause-leans
at_inner-why-requires-clause-leans g c =
    let t = c.args.turn.now in leans_past c.args.rows.now.rows c.args.pass.now c.own_lower.new.pass c.lock.new.pass t.raised.row c.other-inward.result c.in-Ok.inner c.in-Ok.inner t.row.row t.side c.requires.turn.lower.apart c.in-Ok.ensures c.lock.ensures c.requires.leans

pub at_inner-why-requires-clause-higher : goal.at_inner-why-requires-clause-higher
at_inner-why-requires-clause-higher g c =
    let t = c.args.turn.now in let a = c.args.pass.now in let d = c.lock.new.pass in
    subst (IsHigher d.view t.raised.row) c.other-inward.ensures (higher_owned c.args.rows.now.rows a c.own_lower.new.pass d t.raised.row c.other-inward.result c.in-Ok.inner c.in-Ok.inner c.in-Ok.ensures c.lock.ensures (subst (IsHigher a.view t.raised.row) (sym c.other-inward.ensures) c.requires.inner.0))

pub returns : goal.returns
returns g c =
    let a = c.args.pass.now in let b = c.own_lower.new.pass in let d = c.lock.new.pass in let t = c.args.turn.now in let i = c.in-Ok.inner in
    let free : times i a.view.holds ≡ 0 = ap (times i) c.requires.three ∙ times_none i t.raised.row (t.row.row ∷ t.parent.row ∷ []) (search rules) (times_none i t.row.row (t.parent.row ∷ []) (search rules) (times_none i t.parent.row [] (search rules) refl)) in
    tries_locked c.args.rows.now.rows a b d c.at_inner-why.new.pass c.unlock.new.pass i c.at_inner-why.result c.in-Ok.ensures.firm.mends c.in-Ok.ensures.holds free c.lock.ensures c.at_inner-why.ensures c.unlock.ensures

pub returns-in-Err : goal.returns-in-Err
returns-in-Err g c = lacks_tries c.args.rows.now.rows c.in-Err.full.rows c.args.pass.now c.own_lower.new.pass c.args.turn.now.raised.row c.other-inward.result c.of.result c.of.ensures c.in-Err.ensures
