use Rattle.snap_table.specs.Ready.{IsReadyTo}
use Rattle.std.specs.Prelude.{◌*◌}
use Rattle.table_tests.proofs.stress.follow.Given as goal

-- nine uses a round at most
abbrev pub invariant-loop-number : goal.invariant-loop-number
invariant-loop-number g l = IsReadyTo l.table l.fn.who (9 * l.number) l.pass
