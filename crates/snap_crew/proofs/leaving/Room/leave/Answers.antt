use Rattle.std.proofs.Common.{◌++◌, [], ◌∷◌, List, length, ap, ap₂, sym, ◌∙◌, append_assoc, arith}
use Rattle.std.proofs.lemmas.List.Elements.{All-push}
use Rattle.std.specs.Vec.Iter.{into_iter_items}
use Rattle.snap_outlet.specs.Posts.{PostAt}
use Rattle.snap_prelude.proofs.Common.{map-append}
use Rattle.snap_service.specs.Prelude.{AreSeated}
use Rattle.snap_crew.specs.{Leaving.done_of, declared.leaving.Done.Done, declared.seats.Seat.Seat}
use Rattle.snap_crew.proofs.leaving.Room.leave.Goals as goal

pub loop-seat-preserved : goal.loop-seat-preserved
loop-seat-preserved c =
    let v = c.loop-seat.invariant in let seat = c.in-Some.seat in let ys = c.loop-seat.yielded in let steps = c.in-Some.ensures.steps in
    let posts = c.push_reserved-in-loop-seat.ensures in let done = c.push_reserved.ensures in let left = c.left_at-done.ensures in
    record {
      items = append_assoc ys (seat ∷ []) (into_iter_items c.next.new.self) ∙ ap (λ (l : List Seat). ys ++ l) (sym steps.0) ∙ v.items;
      length = omega (arith, steps.1, v.length, ap length steps.0);
      posts = posts.items ∙ ap₂ (λ (l : List PostAt) (p : PostAt). l ++ p ∷ []) v.posts left.post ∙ sym (map-append (λ (s : Seat). s.desk.post) ys (seat ∷ []));
      done = done.items ∙ ap₂ (λ (l : List Done) (d : Done). l ++ d ∷ []) v.done left.done ∙ sym (map-append done_of ys (seat ∷ []));
      seated = All-push (λ (s : Seat). AreSeated s.job.session.tables s.job.session.passes) ys seat v.seated left.seated;
      waiting = v.waiting;
      room_for_posts = omega (arith, steps.1, posts.len, posts.capacity, v.room_for_posts);
      room_for_done = omega (arith, steps.1, done.len, done.capacity, v.room_for_done);
    }
