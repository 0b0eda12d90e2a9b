use Rattle.snap_table.specs.Ready.{IsReadyTo}
use Rattle.table_tests.proofs.meeting.put_and_remove.Given as goal

-- the pass is ready again
abbrev pub invariant-loop-turn : goal.invariant-loop-turn
invariant-loop-turn g l = IsReadyTo l.table l.fn.who 1000000 l.pass
