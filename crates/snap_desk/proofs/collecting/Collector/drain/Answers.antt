use Rattle.std.proofs.Common.{refl, sym, ◌∙◌}
use Rattle.snap_desk.specs.declared.collecting.Collector.{Collector}
use Rattle.snap_desk.proofs.Gathering.{drains_more, drains_one, goes_on_more}
use Rattle.snap_desk.proofs.collecting.Collector.drain.Goals as goal

pub loop-preserved : goal.loop-preserved
loop-preserved g c =
    let v = c.loop.invariant.2 in let first = v.drains in let took = first.takes in let came = first.collects in let old = c.args.self.now in let now = c.loop.self in
    let mid : Collector = record { taker = c.take.new.taker; names = now.names; written = now.written } in (
      tt,
      tt,
      record {
        drains = drains_more old now c.collect.new.self (g.S.Shelf.files c.args.shelf.now) (g.S.Shelf.files c.loop.shelf) (g.S.Shelf.files c.collect.new.shelf) (g.S.Shelf.write_faults c.args.shelf.now) (g.S.Shelf.write_faults c.loop.shelf) (g.S.Shelf.write_faults c.collect.new.shelf) first
            (drains_one now mid c.collect.new.self c.in-Some-take.piece (g.S.Shelf.files c.loop.shelf) (g.S.Shelf.files c.collect.new.shelf) (g.S.Shelf.write_faults c.loop.shelf) (g.S.Shelf.write_faults c.collect.new.shelf)
            c.in-Some-take.ensures.next (c.take.ensures.outlet ∙ sym (took.outlet ∙ c.requires.outlet_is)) refl refl c.collect.ensures.taker c.collect.ensures.collects);
        goes_on = goes_on_more g.S.Shelf.files g.S.Shelf.read_faults c.args.self.now c.loop.self mid c.collect.new.self c.args.shelf.now c.loop.shelf c.collect.new.shelf came.names refl v.goes_on c.collect.ensures.goes_on;
      },
    )
