use Rattle.std.proofs.Common.{rules, subst, sym}
use Rattle.row_tests.proofs.Taking.{may_turn_root}
use Rattle.row_tests.specs.Stopping.{MayTurnRoot}
use Rattle.snap_shape.specs.declared.grip.Turn.{Turn}
use Rattle.row_tests.proofs.grips.take_top_turn.Goals as goal

pub returns : goal.returns
returns g c =
    subst (λ (t : Turn). MayTurnRoot c.args.rows.now c.args.pass.now c.take_child.new.pass t) (sym c.turn_of-turn.ensures) (may_turn_root c.args.rows.now c.args.pass.now c.take_top.new.pass c.take_child.new.pass c.in_ok-edge.edge _ c.in_ok-raised.raised c.requires.table c.requires.mending c.requires.owes c.in_ok-edge.ensures c.in_ok-raised.ensures (search rules))
