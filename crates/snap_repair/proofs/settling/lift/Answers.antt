use Rattle.std.proofs.Common.{◌∙◌, ap, inr}
use Rattle.snap_repair.proofs.Lifting.{edge_height, lifted_to, lifts, seen_settled}
use Rattle.snap_repair.proofs.Raising.{grip_height}
use Rattle.snap_prelude.specs.{or_else}
use Rattle.snap_shape.proofs.Shaping.{pair_of}
use Rattle.snap_repair.proofs.settling.lift.Goals as goal

pub pass_up-requires-clause-pair : goal.pass_up-requires-clause-pair
pass_up-requires-clause-pair c =
    let a = c.args.pass.now in let b = c.set_right.new.pass in
    pair_of b.view c.args.edge.now.parent c.args.edge.now.child c.args.edge.now.side (edge_height a b c.args.edge.now.parent c.args.edge.now.child c.args.edge.now.parent c.args.edge.now.child c.args.edge.now.side c.set_right.ensures.heightens c.requires.edge)

pub pass_up-requires-clause-key : goal.pass_up-requires-clause-key
pass_up-requires-clause-key c = (grip_height c.args.pass.now c.set_right.new.pass c.args.edge.now.parent c.args.edge.now.child c.args.edge.now.child c.set_right.ensures.heightens c.requires.edge.below).is_key

pub pass_up-requires-clause-aims : goal.pass_up-requires-clause-aims
pass_up-requires-clause-aims c = c.set_right.ensures.heightens.to_do ∙ ap (λ o. or_else o c.args.edge.now.child.key) c.requires.to_do

pub pass_up-requires-clause-parent_key : goal.pass_up-requires-clause-parent_key
pass_up-requires-clause-parent_key c = inr (grip_height c.args.pass.now c.set_right.new.pass c.args.edge.now.parent c.args.edge.now.child c.args.edge.now.parent c.set_right.ensures.heightens c.requires.edge.above).is_key

pub pass_up-requires-clause-settled : goal.pass_up-requires-clause-settled
pass_up-requires-clause-settled c = seen_settled c.args.pass.now c.set_right.new.pass c.args.edge.now.parent c.args.edge.now.child c.args.rows.now.rows c.args.look.now c.requires.look c.requires.settles.0 c.requires.settles.1 c.set_right.ensures

pub returns-clause-keeps : goal.returns-clause-keeps
returns-clause-keeps c = lifts c.args.pass.now c.set_right.new.pass c.pass_up.new.pass c.args.edge.now.parent c.args.edge.now.child c.args.look.now c.set_right.ensures c.pass_up.ensures

pub returns-clause-to_do : goal.returns-clause-to_do
returns-clause-to_do c = lifted_to c.set_right.new.pass c.pass_up.new.pass c.args.edge.now.parent.row c.args.edge.now.parent.key c.args.edge.now.child.row c.pass_up.ensures
