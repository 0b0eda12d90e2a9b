-- Counting entries: how the counts of a stage compare.
use Rattle.std.proofs.Common.{◌≤◌, true, false, arith, List, [], ◌∷◌}
use Rattle.snap_steps.specs.Stages.{has_counted, in_write}
use Rattle.snap_steps.specs.declared.view.Stage.{Stage}
use Rattle.snap_steps.specs.declared.view.Stage.TheVariants.{Idle, Writing, Closing}
use Rattle.snap_steps.specs.Counting.{total}
use Rattle.snap_steps.specs.declared.view.View.{View}

pub counted_le : (st : Stage) → has_counted st ≤ 1
counted_le Idle = omega arith
counted_le (Writing made true) = omega arith
counted_le (Writing made false) = omega arith
counted_le (Closing g quiet cut) = omega arith

pub in_write_le : (st : Stage) → in_write st ≤ 1
in_write_le Idle = omega arith
in_write_le (Writing made counted) = omega arith
in_write_le (Closing g quiet cut) = omega arith

counted_write : (st : Stage) → has_counted st ≤ in_write st
counted_write Idle = omega arith
counted_write (Writing made true) = omega arith
counted_write (Writing made false) = omega arith
counted_write (Closing g quiet cut) = omega arith

pub counted_writes : (views : List View) → total (λ u. has_counted u.stage) views ≤ total (λ u. in_write u.stage) views
counted_writes [] = omega arith
counted_writes (x ∷ xs) = omega (arith, counted_write x.stage, counted_writes xs)
