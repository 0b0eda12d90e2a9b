use Rattle.std.proofs.Common.{◌≡◌, ◌≤◌, ◌+◌, ℕ, length, take, Some, slice_get, vec_capacity}
use Rattle.snap_prelude.specs.{Closes, Ended}
use Rattle.snap_service.specs.Prelude.{pass_at}
use Rattle.snap_service.proofs.service.close_all.Given as goal

-- the tables from here on were closed, the last one first
abbrev pub invariant-loop-pass : goal.invariant-loop-pass
invariant-loop-pass l = record {
  left : l.left.items ≡ take (length l.left.items) l.fn.passes.items;
  tables : l.open.items ≡ take (length l.open.items) l.fn.tables.items;
  same : length l.open.items ≡ length l.left.items;
  all : length l.fronts.items + length l.left.items ≡ length l.fn.passes.items;
  space : length l.fn.tables.items ≤ vec_capacity l.fronts;
  closed : (j t : ℕ) (f : Ended) → j + (t + 1) ≡ length l.fn.passes.items → slice_get l.fronts.items j ≡ Some f → Closes (pass_at l.fn.passes.items t) f;
}

abbrev pub decreases-loop-pass : goal.decreases-loop-pass
decreases-loop-pass l = length l.left.items
