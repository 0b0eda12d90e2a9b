use Rattle.std.proofs.Common.{ap, false, rules}
use Rattle.row_tests.proofs.{Entering.entered_mending, Freeing.holds_turn}
use Rattle.row_tests.proofs.stopped.turn_beside.Goals as goal
use Rattle.row_tests.specs.Stopping.{MayTurn}
use Rattle.snap_prelude.specs.{Known}

pub take_turn-requires-clause-mending : goal.take_turn-requires-clause-mending
take_turn-requires-clause-mending g c = entered_mending c.args.pass.now c.enter.new.pass c.requires.pass.idle c.enter.ensures

pub rotate-requires : goal.rotate-requires
rotate-requires g c =
    let may : MayTurn c.args.rows.now c.enter.new.pass c.take_turn.new.pass c.expect-turn.result = search rules in
    may.rotates

pub free_and_end-requires-clause-turn : goal.free_and_end-requires-clause-turn
free_and_end-requires-clause-turn g c =
    let a = c.enter.new.pass in let b = c.take_turn.new.pass in let t = c.expect-turn.result in
    let may : MayTurn c.args.rows.now a b t = search rules in
    holds_turn c.args.rows.now a b c.rotate.new.pass false t t.parent.row t.row.row t.raised.row (ap (λ (k : Known). k.view.stage) c.enter.ensures.is) may.taken may.some c.rotate.ensures.turned.keeps
