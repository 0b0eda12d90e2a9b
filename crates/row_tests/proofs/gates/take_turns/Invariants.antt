use Rattle.std.proofs.Common.{◌*◌}
use Rattle.snap_table.specs.Ready.{IsReadyTo}
use Rattle.row_tests.proofs.gates.take_turns.Given as goal

-- the pass is ready again, with two uses a turn
abbrev pub invariant-loop-turn : goal.invariant-loop-turn
invariant-loop-turn g l = IsReadyTo l.rows l.fn.who (2 * l.turn) l.pass
