use Rattle.std.proofs.Common.{◌≡◌, ◌<◌, ℕ, List, ap, refl, sym, subst, ◌∙◌, length, arith, map, slice_index_or}
use Rattle.std.specs.Prelude.{All}
use Rattle.snap_outlet.specs.Posts.{AreNumbered, PostAt}
use Rattle.snap_service.specs.Prelude.{AreSeated}
use Rattle.snap_crew.specs.{Leaving.done_of, Leaving.RunsAll, Seats.HasSat, declared.leaving.Done.Done}
use Rattle.snap_crew.specs.{declared.seats.Seat.Seat}
use Rattle.snap_desk.proofs.Gathering.{goes_on_more}
use Rattle.snap_crew.proofs.Left.{lent_back, posts_numbered, posts_outlet, runs_all}
use Rattle.snap_crew.proofs.leaving.run_all.Goals as goal

pub returns-clause-runs : goal.returns-clause-runs
returns-clause-runs g c =
    let new = c.do_beside.new.seats in let value = c.as_mut_slice.ensures.value in
    let even : length new ≡ length c.args.seats.items = omega (arith, c.do_beside.auto.seats, ap length value) in
    let back = lent_back c.args.seats.len new _ (omega (arith, even, c.args.seats.ok.0)) in
    subst (λ (ds : List Done). RunsAll c.args.loads.now c.args.seats.items ds c.args.collector.now c.settle.new.collector (g.S.Shelf.files c.args.shelf.now) (g.S.Shelf.files c.settle.new.shelf) (g.S.Shelf.write_faults c.args.shelf.now) (g.S.Shelf.write_faults c.settle.new.shelf)) (sym c.settle.ensures.done)
    (runs_all c.args.loads.now c.args.seats.items new c.leave.new.self.done.items c.leave.new.self.posts.items even
    (c.leave.ensures.posts ∙ ap (map (λ (s : Seat). s.desk.post)) back) (c.leave.ensures.done ∙ ap (map done_of) back)
    (subst (λ (xs : List Seat). (i : ℕ) (d : Seat) → i < length xs → HasSat c.args.loads.now (slice_index_or xs i d) (slice_index_or new i d)) value c.do_beside.ensures.sat)
    (subst (λ (xs : List Seat). All (λ (s : Seat). AreSeated s.job.session.tables s.job.session.passes) xs) back c.leave.ensures.seated)
    c.args.collector.now c.do_beside.new.collector c.settle.new.collector (g.S.Shelf.files c.args.shelf.now) (g.S.Shelf.files c.do_beside.new.shelf) (g.S.Shelf.files c.settle.new.shelf) (g.S.Shelf.write_faults c.args.shelf.now) (g.S.Shelf.write_faults c.do_beside.new.shelf) (g.S.Shelf.write_faults c.settle.new.shelf)
    c.requires.untaken c.do_beside.ensures.drains c.settle.ensures.settles)

pub settle-requires-clause-posts : goal.settle-requires-clause-posts
settle-requires-clause-posts g c =
    let new = c.do_beside.new.seats in let value = c.as_mut_slice.ensures.value in
    let even : length new ≡ length c.args.seats.items = omega (arith, c.do_beside.auto.seats, ap length value) in
    let back = lent_back c.args.seats.len new _ (omega (arith, even, c.args.seats.ok.0)) in
    subst (λ (ps : List PostAt). All (λ (p : PostAt). p.outlet ≡ c.args.outlet.now) ps) (sym (c.leave.ensures.posts ∙ ap (map (λ (s : Seat). s.desk.post)) back))
    (posts_outlet c.args.loads.now c.args.outlet.now c.args.seats.items new even
    (subst (λ (xs : List Seat). (i : ℕ) (d : Seat) → i < length xs → HasSat c.args.loads.now (slice_index_or xs i d) (slice_index_or new i d)) value c.do_beside.ensures.sat) c.requires.seats)

pub settle-requires-clause-numbered : goal.settle-requires-clause-numbered
settle-requires-clause-numbered g c =
    let new = c.do_beside.new.seats in let value = c.as_mut_slice.ensures.value in
    let even : length new ≡ length c.args.seats.items = omega (arith, c.do_beside.auto.seats, ap length value) in
    let back = lent_back c.args.seats.len new _ (omega (arith, even, c.args.seats.ok.0)) in
    subst (λ (ps : List PostAt). AreNumbered 0 ps) (sym (c.leave.ensures.posts ∙ ap (map (λ (s : Seat). s.desk.post)) back))
    (posts_numbered c.args.loads.now c.args.outlet.now c.args.seats.items new even
    (subst (λ (xs : List Seat). (i : ℕ) (d : Seat) → i < length xs → HasSat c.args.loads.now (slice_index_or xs i d) (slice_index_or new i d)) value c.do_beside.ensures.sat) c.requires.numbered)

pub settle-requires-clause-can : goal.settle-requires-clause-can
settle-requires-clause-can g c =
    let drains = c.do_beside.ensures.drains in let took = drains.takes in let on = c.do_beside.ensures.goes_on in
    record { outlet_is = took.outlet ∙ c.requires.can.outlet_is; ready = on.ready }

pub returns-clause-goes_on : goal.returns-clause-goes_on
returns-clause-goes_on g c =
    let d = c.do_beside.new.collector in let drains = c.do_beside.ensures.drains in let came = drains.collects in
    goes_on_more g.S.Shelf.files g.S.Shelf.read_faults c.args.collector.now d d c.settle.new.collector c.args.shelf.now c.do_beside.new.shelf c.settle.new.shelf came.names refl c.do_beside.ensures.goes_on c.settle.ensures.goes_on
