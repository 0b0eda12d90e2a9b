use Rattle.std.proofs.Common.{◌∙◌, ◌+◌, ap, refl, sym}
use Rattle.snap_shape.proofs.Shaping.{by_side, edge_stays, turn_of, turns_still}
use Rattle.snap_shape.proofs.Touching.{None, loaded, loaded_here, stored}
use Rattle.snap_prelude.specs.{Known, link_field, other, shrunk, Stamp}
use Rattle.snap_shape.proofs.begin_turn.Goals as goal

pub mark_shrinking-requires-clause-place : goal.mark_shrinking-requires-clause-place
mark_shrinking-requires-clause-place c =
    let s = loaded c.args.pass.now c.child_of-middle.new.pass c.args.turn.now.raised.row (link_field c.other-across.result) c.child_of-middle.result c.child_of-middle.ensures.pass in
    turn_of c.child_of-middle.new.pass.view c.args.turn.now.parent c.args.turn.now.row c.args.turn.now.raised c.args.turn.now.parent_side c.args.turn.now.side
    (edge_stays c.args.pass.now c.child_of-middle.new.pass None c.args.turn.now.parent c.args.turn.now.row c.args.turn.now.parent_side s (λ f h. h) (λ f h. h) c.requires.turn.upper)
    (edge_stays c.args.pass.now c.child_of-middle.new.pass None c.args.turn.now.row c.args.turn.now.raised c.args.turn.now.side s (λ f h. h) (λ f h. h) c.requires.turn.lower)
    c.requires.turn.apart

pub mark_shrinking-requires-clause-aims : goal.mark_shrinking-requires-clause-aims
mark_shrinking-requires-clause-aims c = turns_still c.args.pass.now c.child_of-middle.new.pass c.args.turn.now.parent.row c.args.turn.now.row.row c.args.turn.now.raised.row c.args.key c.args.turn.now.raised.row (link_field c.other-across.result) c.child_of-middle.result c.child_of-middle.ensures.pass c.requires.aims

pub returns-clause-begun : goal.returns-clause-begun
returns-clause-begun c =
    let a = c.args.pass.now in let b = c.child_of-middle.new.pass in let m = c.mark_shrinking.new.pass in let t = c.args.turn.now in let middle = c.child_of-middle.result in
    let load = by_side a b t.raised c.other-across.result (other t.side) middle c.other-across.ensures c.child_of-middle.ensures.pass in
    let mark = stored b m (shrunk b.view t.parent.row t.parent_side t.row.row t.side t.raised.row (t.row.stamp + 2) c.args.key) t.row.row Stamp (t.row.stamp + 2) c.mark_shrinking.ensures refl refl refl refl in record {
      turn = c.requires.turn;
      begun = c.mark_shrinking.ensures ∙ ap (λ (k : Known). record { table = k.table; view = shrunk k.view t.parent.row t.parent_side t.row.row t.side t.raised.row (t.row.stamp + 2) c.args.key }) load;
      middle_is = mark.knows t.raised.row (link_field (other t.side)) middle (λ z. c.requires.turn.lower.apart (sym z.0)) (loaded_here a b t.raised.row (link_field (other t.side)) middle c.requires.turn.lower.below.held load);
    }
