use Rattle.std.proofs.Common.{sym, subst}
use Rattle.snap_repair.proofs.{Lifting.looks_itself, Mending.edge_looks}
use Rattle.snap_repair.proofs.Raising.{above_edge, aims_lowered, aims_up, below_edge, turned_lowers, turned_mends, turns_looks}
use Rattle.snap_repair.specs.Raising.{Heightens, RaisesFor}
use Rattle.snap_shape.specs.{Grips.edge_at, Grips.IsEdge, Shapes.later, declared.grip.Grip.Grip}
use Rattle.snap_prelude.specs.{Side}
use Rattle.snap_repair.proofs.tilting.lower_row.Goals as goal

pub rotate-lowered-requires : goal.rotate-lowered-requires
rotate-lowered-requires c =
    let t = c.args.turn.now in let a = c.args.pass.now in record {
      table = c.requires.table;
      within = c.requires.rows;
      turn = c.requires.turn;
      aims = turns_looks a a t.parent.row t.row.row t.raised.row c.args.key (looks_itself a) c.requires.aims;
      count = c.requires.count;
      whole = c.requires.mending.whole;
    }

pub set_height-requires-clause-edge : goal.set_height-requires-clause-edge
set_height-requires-clause-edge c =
    let t = c.args.turn.now in let a = c.args.pass.now in let b = c.args.pass.now in let d = c.rotate-lowered.new.pass in let s = looks_itself b in
    let u = edge_looks a b t.parent t.row t.parent_side s c.requires.turn.upper in
    let l = edge_looks a b t.row t.raised t.side s c.requires.turn.lower in
    subst (λ (x : Grip). IsEdge d.view (edge_at t.raised c.other.result x)) (sym c.rotate-lowered.ensures.row)
    (subst (λ (z : Side). IsEdge d.view (edge_at t.raised z (later t.row))) (sym c.other.ensures)
    (below_edge b d t.parent t.row t.raised t.parent_side t.side u l c.rotate-lowered.ensures.turned))

pub set_height-requires-clause-aims : goal.set_height-requires-clause-aims
set_height-requires-clause-aims c =
    let t = c.args.turn.now in let a = c.args.pass.now in let b = c.args.pass.now in let d = c.rotate-lowered.new.pass in
    let u = edge_looks a b t.parent t.row t.parent_side (looks_itself b) c.requires.turn.upper in
    subst (λ (x : Grip). RaisesFor d.view t.raised.row x.row) (sym c.rotate-lowered.ensures.row) (aims_lowered b d t.parent t.row t.raised t.parent_side t.side u c.rotate-lowered.ensures.turned)

pub set_height-requires-2-clause-edge : goal.set_height-requires-2-clause-edge
set_height-requires-2-clause-edge c =
    let t = c.args.turn.now in let a = c.args.pass.now in let b = c.args.pass.now in let d = c.rotate-lowered.new.pass in let f = c.set_height.new.pass in let s = looks_itself b in
    let u = edge_looks a b t.parent t.row t.parent_side s c.requires.turn.upper in
    let l = edge_looks a b t.row t.raised t.side s c.requires.turn.lower in
    above_edge b d f t.parent t.row t.raised t.parent_side t.side u l c.requires.turn.apart c.rotate-lowered.ensures.turned (subst (λ (x : Grip). Heightens d f x) c.rotate-lowered.ensures.row c.set_height.ensures)

pub set_height-requires-2-clause-aims : goal.set_height-requires-2-clause-aims
set_height-requires-2-clause-aims c =
    let t = c.args.turn.now in let b = c.args.pass.now in let d = c.rotate-lowered.new.pass in let f = c.set_height.new.pass in
    aims_up b d f t.parent t.row t.raised t.parent_side t.side c.rotate-lowered.ensures.turned (subst (λ (x : Grip). Heightens d f x) c.rotate-lowered.ensures.row c.set_height.ensures)

pub returns : goal.returns
returns c =
    let t = c.args.turn.now in let a = c.args.pass.now in let d = c.rotate-lowered.new.pass in let f = c.set_height.new.pass in
    let h = subst (λ (x : Grip). Heightens d f x) c.rotate-lowered.ensures.row c.set_height.ensures in
    let m = turned_mends a a d f c.set_height-2.new.pass t.parent t.row t.raised t.parent_side t.side c.requires.mending.whole (looks_itself a) c.rotate-lowered.ensures.turned h c.set_height-2.ensures in
    turned_lowers a d f c.set_height-2.new.pass t.parent t.row t.raised t.parent_side t.side c.requires.turn.upper m c.rotate-lowered.ensures.turned h c.set_height-2.ensures
