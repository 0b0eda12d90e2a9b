-- What a clone was found to weigh, once more rows are handed out.
use Rattle.std.proofs.Common.{ℕ, ◌≤◌, arith}
use Rattle.snap_rule.specs.Tree.{Tree}
use Rattle.snap_steps.specs.Clones.{IsCaused, IsWeighed}
use Rattle.snap_steps.specs.declared.view.Balance.{Balance}
use Rattle.snap_steps.specs.declared.view.Balance.TheVariants.{Settled, RowsOut, StampOut}

caused_later : (rows next next' : ℕ) (t : Tree) (b : Balance) → next ≤ next' → IsCaused rows next t b → IsCaused rows next' t b
caused_later rows next next' t Settled le h = h
caused_later rows next next' t RowsOut le h = omega (arith, le, h)
caused_later rows next next' t (StampOut row) le h = (h.0, omega (arith, le, h.1))

pub weighed_later : (rows next next' : ℕ) (t : Tree) (b : Balance) → next ≤ next' → next' ≤ rows → IsWeighed rows next t b → IsWeighed rows next' t b
weighed_later rows next next' t b le room h = record { caused = caused_later rows next next' t b le h.caused; few = omega (arith, le, h.few); low = room }
