use Rattle.std.proofs.Common.{rules, subst, sym}
use Rattle.row_tests.proofs.Taking.{may_unlink}
use Rattle.row_tests.specs.Stopping.{MayUnlink}
use Rattle.snap_shape.specs.declared.grip.Turn.{Turn}
use Rattle.row_tests.proofs.grips.take_routing.Goals as goal

pub returns : goal.returns
returns g c =
    subst (λ (t : Turn). MayUnlink c.args.rows.now c.args.pass.now c.is_gone.new.pass t) (sym c.turn_of-turn.ensures) (may_unlink c.args.rows.now c.args.pass.now c.take_edge.new.pass c.take_child.new.pass c.is_gone.new.pass c.in_ok-edge.edge _ c.in_ok-raised.raised c.requires.table c.requires.mending c.in_ok-edge.ensures c.in_ok-raised.ensures c.is_gone.ensures.looks (c.is_gone.ensures.gone (search rules)))
