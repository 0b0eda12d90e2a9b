use Rattle.snap_table.specs.Ready.{IsReadyTo}
use Rattle.std.specs.Prelude.{◌+◌, ◌*◌}
use Rattle.table_tests.proofs.stress.write_eight.Given as goal

-- one use a turn
abbrev pub invariant-loop-turn : goal.invariant-loop-turn
invariant-loop-turn g l = IsReadyTo l.table l.fn.who (9 * l.fn.round.number + l.turn) l.pass
