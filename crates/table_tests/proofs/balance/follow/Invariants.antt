use Rattle.snap_table.specs.Ready.{IsReadyTo}
use Rattle.table_tests.proofs.balance.follow.Given as goal

-- the pass is ready again, with one use a turn
abbrev pub invariant-loop-turn : goal.invariant-loop-turn
invariant-loop-turn g l = (goal.iterator-loop-turn g).can_next l.rest × (goal.iterator-loop-turn g).is_finite l.rest × IsReadyTo l.table 0 l.turn l.pass
