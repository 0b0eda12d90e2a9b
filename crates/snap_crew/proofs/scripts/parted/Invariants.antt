use Rattle.std.proofs.Common.{◌≡◌, ◌++◌, length, map}
use Rattle.std.specs.{Prelude.All, Prelude.IsOk, Vec.Iter.into_iter_items, Vec.Iter.into_iter_len}
use Rattle.snap_crew.proofs.scripts.parted.Given as goal

-- memory sufficed for all so far, and what they left is apart
abbrev pub invariant-loop-done : goal.invariant-loop-done
invariant-loop-done l = record {
  items : l.yielded ++ into_iter_items l.done-iterator ≡ l.fn.all.items;
  length : into_iter_len l.done-iterator ≡ length (into_iter_items l.done-iterator);
  receipts : l.ran.receipts.items ≡ map (λ d. d.receipt) l.yielded;
  fulls : l.ran.fulls.items ≡ map (λ d. d.full) l.yielded;
  written : l.ran.written ≡ l.fn.written;
  came : All (λ d. IsOk d.came) l.yielded;
}
