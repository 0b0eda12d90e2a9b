use Rattle.std.proofs.Common.{ap, false, rules}
use Rattle.row_tests.proofs.{Entering.entered_mending, Freeing.holds_top}
use Rattle.row_tests.proofs.stopped.stop_in_rotation_at_root.Goals as goal
use Rattle.row_tests.specs.Stopping.{MayTurnRoot}
use Rattle.snap_prelude.specs.{Known}

pub take_top_turn-requires-clause-mending : goal.take_top_turn-requires-clause-mending
take_top_turn-requires-clause-mending g c = entered_mending c.args.pass.now c.enter.new.pass c.requires.pass.idle c.enter.ensures

pub free_top-requires : goal.free_top-requires
free_top-requires g c =
    let a = c.enter.new.pass in let b = c.take_top_turn.new.pass in let t = c.expect-turn.result in
    let may : MayTurnRoot c.args.rows.now a b t = search rules in
    holds_top c.args.rows.now a b c.rotate_root.new.pass false t t.parent.row t.row.row t.raised.row (ap (λ (k : Known). k.view.stage) c.enter.ensures.is) may.taken may.top c.rotate_root.ensures.turned.keeps
