use Rattle.std.proofs.Common.{ap, false, rules}
use Rattle.row_tests.proofs.{Entering.entered_mending, Freeing.holds_top}
use Rattle.row_tests.proofs.ways.repair_below.Goals as goal
use Rattle.row_tests.specs.Stopping.{MayTurnRoot}
use Rattle.snap_prelude.specs.{Known}

pub take_top_turn-requires-clause-mending : goal.take_top_turn-requires-clause-mending
take_top_turn-requires-clause-mending g c = entered_mending c.args.other.now c.enter.new.pass c.requires.other.idle c.enter.ensures

pub begin_turn-middle-requires : goal.begin_turn-middle-requires
begin_turn-middle-requires g c =
    let may : MayTurnRoot c.args.rows.now c.enter.new.pass c.take_top_turn.new.pass c.expect-turn.result = search rules in
    may.rotates

pub end_turn-requires-clause-begun : goal.end_turn-requires-clause-begun
end_turn-requires-clause-begun g c = (c.take_top_turn.new.pass, c.expect-turn.result.row.key, c.begin_turn-middle.ensures.begun)

pub free_top-requires : goal.free_top-requires
free_top-requires g c =
    let a = c.enter.new.pass in let b = c.take_top_turn.new.pass in let t = c.expect-turn.result in
    let may : MayTurnRoot c.args.rows.now a b t = search rules in
    let turned = c.end_turn.ensures b t.row.key c.begin_turn-middle.ensures.begun in
    holds_top c.args.rows.now a b c.end_turn.new.pass false t t.parent.row t.row.row t.raised.row (ap (λ (k : Known). k.view.stage) c.enter.ensures.is) may.taken may.top turned.keeps
