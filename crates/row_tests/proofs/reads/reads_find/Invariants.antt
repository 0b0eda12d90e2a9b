use Rattle.snap_prelude.specs.{IsOf}
use Rattle.row_tests.proofs.reads.reads_find.Given as goal

-- the pass is of the table still
abbrev pub invariant-loop-case : goal.invariant-loop-case
invariant-loop-case g l = (goal.iterator-loop-case g).can_next l.case-iterator × (goal.iterator-loop-case g).is_finite l.case-iterator × IsOf l.pass l.rows
