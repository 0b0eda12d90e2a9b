use Rattle.std.proofs.Common.{◌≡◌, ◌≤◌, ◌+◌, ◌++◌, length, map}
use Rattle.std.specs.Prelude.{vec_capacity, vec_len}
use Rattle.std.specs.Vec.Iter.{into_iter_items, into_iter_len}
use Rattle.snap_outlet.specs.Outlets.{with_receipts}
use Rattle.snap_outlet.proofs.outlet.Outlet.gather_posts.Given as goal

-- the posts so far have ended
abbrev pub invariant-loop-post : goal.invariant-loop-post
invariant-loop-post l = record {
  items : l.yielded ++ into_iter_items l.post-iterator ≡ l.fn.posts.items;
  length : into_iter_len l.post-iterator ≡ length (into_iter_items l.post-iterator);
  taker : l.taker ≡ with_receipts l.fn.taker (map (λ p. p.sent) l.yielded);
  waiting : map (λ w. w.items) l.waiting.items ≡ map (λ w. w.items) l.fn.waiting.items ++ map (λ p. p.waiting) l.yielded;
  room : into_iter_len l.post-iterator + vec_len l.waiting ≤ vec_capacity l.waiting;
}
