use Rattle.snap_table.specs.Ready.{IsReadyTo}
use Rattle.table_tests.proofs.clones.clone_often.Given as goal

-- the pass is ready again, with one use a turn
abbrev pub invariant-loop-turn : goal.invariant-loop-turn
invariant-loop-turn g l = IsReadyTo l.table l.fn.who l.turn l.pass
