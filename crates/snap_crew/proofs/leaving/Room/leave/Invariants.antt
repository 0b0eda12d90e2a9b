use Rattle.std.proofs.Common.{◌≡◌, ◌≤◌, ◌+◌, ◌++◌, length, map}
use Rattle.std.specs.Prelude.{All, vec_capacity, vec_len}
use Rattle.std.specs.Vec.Iter.{into_iter_items, into_iter_len}
use Rattle.snap_service.specs.Prelude.{AreSeated}
use Rattle.snap_crew.specs.Leaving.{done_of}
use Rattle.snap_crew.proofs.leaving.Room.leave.Given as goal

-- the seats so far are left
abbrev pub invariant-loop-seat : goal.invariant-loop-seat
invariant-loop-seat l = record {
  items : l.yielded ++ into_iter_items l.seat-iterator ≡ l.fn.seats.items;
  length : into_iter_len l.seat-iterator ≡ length (into_iter_items l.seat-iterator);
  posts : l.self.posts.items ≡ map (λ s. s.desk.post) l.yielded;
  done : l.self.done.items ≡ map done_of l.yielded;
  seated : All (λ s. AreSeated s.job.session.tables s.job.session.passes) l.yielded;
  waiting : l.self.waiting ≡ l.fn.self.waiting;
  room_for_posts : into_iter_len l.seat-iterator + vec_len l.self.posts ≤ vec_capacity l.self.posts;
  room_for_done : into_iter_len l.seat-iterator + vec_len l.self.done ≤ vec_capacity l.self.done;
}
