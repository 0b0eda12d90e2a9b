use Rattle.std.proofs.Common.{◌<◌, ◌++◌, ℕ, List, ap, refl, sym, subst, ◌∙◌, arith, map}
use Rattle.std.specs.Prelude.{All}
use Rattle.snap_outlet.specs.{Outlets.pieces_of, Outlets.TakerAt, Posts.PostAt, declared.view.Parcel.Parcel}
use Rattle.snap_desk.specs.{Collecting.Collects, Collecting.rests_from, declared.collecting.Collector.Collector}
use Rattle.snap_desk.proofs.Gathering.{goes_on_more}
use Rattle.snap_crew.proofs.Left.{rests_same, settles}
use Rattle.snap_crew.proofs.leaving.Room.settle.Goals as goal

pub returns-clause-settles : goal.returns-clause-settles
returns-clause-settles g c =
    let posts = c.args.self.posts.items in let old = c.args.collector.now in
    let gathered : Collector = record { taker = c.gather_posts.new.taker; names = old.names; written = old.written } in
    let drains = c.drain.ensures.drains in
    let gathers = c.gather_posts.ensures.gathered in
    let h = settles gathered c.drain.new.self c.collect_rests.new.self posts drains.parcels (g.S.Shelf.files c.args.shelf.now) (g.S.Shelf.files c.drain.new.shelf) (g.S.Shelf.files c.collect_rests.new.shelf) (g.S.Shelf.write_faults c.args.shelf.now) (g.S.Shelf.write_faults c.drain.new.shelf) (g.S.Shelf.write_faults c.collect_rests.new.shelf)
    (omega (arith, c.requires.few, c.args.self.posts.ok.0, ap (λ (t : TakerAt). t.tally.senders) c.gather_posts.ensures.gathered)) drains.takes drains.collects
    (subst (λ (xs : List Parcel). Collects c.drain.new.self c.collect_rests.new.self xs (g.S.Shelf.files c.drain.new.shelf) (g.S.Shelf.files c.collect_rests.new.shelf) (g.S.Shelf.write_faults c.drain.new.shelf) (g.S.Shelf.write_faults c.collect_rests.new.shelf))
    (ap (rests_from 0) (c.gather_posts.ensures.waiting ∙ ap (λ l. map (λ w. w.items) l ++ map (λ (p : PostAt). p.waiting) posts) c.requires.empty) ∙ rests_same 0 posts) c.collect_rests.ensures.collects)
    (c.drain.ensures.all_put posts (ap (λ (t : TakerAt). t.tally.finished) c.gather_posts.ensures.gathered ∙ ap (λ l. l ++ map (λ (p : PostAt). p.sent) posts) c.requires.ungathered) c.requires.numbered) in let k = h.collects in
    record {
      parcels = h.parcels;
      within = subst (λ (n : ℕ). All (λ (x : Parcel). x.sender < n) h.parcels) (ap (λ (t : TakerAt). t.tally.senders) gathers) h.within;
      all = λ i p l. ap (λ (xs : List Parcel). pieces_of i (xs ++ h.parcels)) (sym (ap (λ (t : TakerAt). t.tally.taken) gathers)) ∙ h.all i p l;
      collects = record { names = k.names; files = k.files; later = k.later };
    }

pub drain-requires : goal.drain-requires
drain-requires g c = record {
  outlet_is = ap (λ (t : TakerAt). t.outlet) c.gather_posts.ensures.gathered ∙ c.requires.can.outlet_is;
  ready = c.requires.can.ready;
}

pub returns-clause-goes_on : goal.returns-clause-goes_on
returns-clause-goes_on g c =
    let old = c.args.collector.now in let drained = c.drain.new.self in let first = c.drain.ensures.goes_on in let drains = c.drain.ensures.drains in let came = drains.collects in
    goes_on_more g.S.Shelf.files g.S.Shelf.read_faults old drained drained c.collect_rests.new.self c.args.shelf.now c.drain.new.shelf c.collect_rests.new.shelf came.names refl
    (record { ready = first.ready; reads = first.reads; none = first.none }) c.collect_rests.ensures.goes_on
