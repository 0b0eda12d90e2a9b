use Rattle.std.proofs.Common.{ℕ, ◌+◌, ◌*◌, subst}
use Rattle.snap_table.specs.Ready.{IsReadyTo}
use Rattle.table_tests.proofs.Rounds.{clone_ready, round_ready}
use Rattle.table_tests.proofs.stress.follow.Goals as goal
use Rattle.table_tests.proofs.stress.follow.Goals.{then-round, else-round}

pub loop-number-preserved : goal.loop-number-preserved
loop-number-preserved g c =
    let n = c.loop-number.number in let pass = c.write_eight-pass.result in
    let ready : IsReadyTo c.args.table.now c.args.who (9 * n + 8) pass = subst (λ (x : ℕ). IsReadyTo c.args.table.now c.args.who (9 * x + 8) pass) c.round_of-round.ensures c.write_eight-pass.ensures in
    elim c.if-round.branch [
      | then-round w ↦ rw w.pass-is (clone_ready c.args.table.now c.args.who n pass w.clones_well-is_right.new.pass ready w.clones_well-is_right.ensures)
      | else-round w ↦ rw w.pass-is (round_ready c.args.table.now c.args.who n pass ready)
    ]
