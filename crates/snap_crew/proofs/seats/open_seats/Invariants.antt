use Rattle.std.proofs.Common.{◌≡◌, ◌+◌, length, take, slice_index_or}
use Rattle.snap_outlet.specs.Outlets.{new_senders}
use Rattle.snap_crew.specs.Prelude.{IsSeat, Mirrors}
use Rattle.snap_crew.proofs.seats.open_seats.Given as goal

-- the seats of the jobs from here on are made
abbrev pub invariant-loop-job : goal.invariant-loop-job
invariant-loop-job l = record {
  left : l.left.items ≡ take (length l.left.items) l.fn.jobs.items;
  senders : l.others.items ≡ new_senders l.outlet (length l.left.items);
  all : length l.seats.items + length l.left.items ≡ length l.fn.jobs.items;
  seats : (d : _) → Mirrors (length l.fn.jobs.items) l.seats.items (λ i seat. IsSeat l.outlet l.names i (slice_index_or l.fn.jobs.items i d) seat);
}

abbrev pub decreases-loop-job : goal.decreases-loop-job
decreases-loop-job l = length l.left.items
