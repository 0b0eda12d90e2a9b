use Rattle.std.proofs.Common.{rules, subst, sym}
use Rattle.row_tests.proofs.Taking.{may_turn}
use Rattle.row_tests.specs.Stopping.{MayTurn}
use Rattle.snap_shape.specs.declared.grip.Turn.{Turn}
use Rattle.row_tests.proofs.grips.take_turn.Goals as goal

pub returns-clause-turn : goal.returns-clause-turn
returns-clause-turn g c =
    subst (λ (t : Turn). MayTurn c.args.rows.now c.args.pass.now c.take_child.new.pass t) (sym c.turn_of-turn.ensures) (may_turn c.args.rows.now c.args.pass.now c.take_edge.new.pass c.take_child.new.pass c.in_ok-edge.edge _ c.in_ok-raised.raised c.requires.table c.requires.mending c.requires.owes c.in_ok-edge.ensures c.in_ok-raised.ensures (search rules))
