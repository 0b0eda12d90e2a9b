use Rattle.snap_prelude.specs.{IsOf}
use Rattle.row_tests.proofs.waits.comes_free.Given as goal

-- the pass is of the table still
abbrev pub invariant-loop-turn : goal.invariant-loop-turn
invariant-loop-turn l = IsOf l.reader l.rows
