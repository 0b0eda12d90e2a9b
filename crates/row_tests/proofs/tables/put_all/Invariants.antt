use Rattle.snap_table.specs.Ready.{IsReadyTo}
use Rattle.row_tests.proofs.tables.put_all.Given as goal

-- the pass is ready still
abbrev pub invariant-loop-case : goal.invariant-loop-case
invariant-loop-case g l = (goal.iterator-loop-case g).can_next l.case-iterator × (goal.iterator-loop-case g).is_finite l.case-iterator × IsReadyTo l.rows 0 1000 l.pass
