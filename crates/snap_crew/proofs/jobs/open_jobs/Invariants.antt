use Rattle.std.proofs.Common.{◌≡◌, ◌+◌, length, take, slice_index_or}
use Rattle.snap_crew.specs.Prelude.{script_commands, IsJob, Mirrors}
use Rattle.snap_crew.proofs.jobs.open_jobs.Given as goal

-- the jobs of the kits from here on are made
abbrev pub invariant-loop-kit : goal.invariant-loop-kit
invariant-loop-kit l = record {
  left : l.left.items ≡ take (length l.left.items) l.fn.kits.items;
  all : length l.jobs.items + length l.left.items ≡ length l.fn.kits.items;
  jobs : (d : _) → Mirrors (length l.fn.kits.items) l.jobs.items (λ i job. IsJob l.loads l.service (script_commands (slice_index_or l.scripts i d)) i job);
}

abbrev pub decreases-loop-kit : goal.decreases-loop-kit
decreases-loop-kit l = length l.left.items
