use Rattle.std.proofs.Common.{rules, true}
use Rattle.row_tests.proofs.Freeing.{holds_turn}
use Rattle.row_tests.proofs.stopped.stop_in_unlinking.Goals as goal
use Rattle.row_tests.specs.Stopping.{MayUnlink}

pub free_and_end-requires-clause-turn : goal.free_and_end-requires-clause-turn
free_and_end-requires-clause-turn g c =
    let a = c.remove.new.pass in let b = c.take_routing.new.pass in let t = c.expect-turn.result in
    let may : MayUnlink c.args.rows.now a b t = search rules in
    holds_turn c.args.rows.now a b c.unlink_slowly.new.pass true t t.row.row t.raised.row t.raised.row c.remove.ensures.writing.stage may.taken may.some c.unlink_slowly.ensures.unlinked.keeps
