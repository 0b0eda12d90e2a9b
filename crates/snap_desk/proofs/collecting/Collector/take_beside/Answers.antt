use Rattle.std.proofs.Common.{refl}
use Rattle.snap_desk.proofs.Gathering.{drains_more, goes_on_more}
use Rattle.snap_desk.proofs.collecting.Collector.take_beside.Goals as goal

pub returns-then-ended-clause-drains : goal.returns-then-ended-clause-drains
returns-then-ended-clause-drains g c =
    let v = c.loop.invariant.2 in
    drains_more c.args.self.now c.loop.self c.drain.new.self (g.S.Shelf.files c.args.shelf.now) (g.S.Shelf.files c.loop.shelf) (g.S.Shelf.files c.drain.new.shelf) (g.S.Shelf.write_faults c.args.shelf.now) (g.S.Shelf.write_faults c.loop.shelf) (g.S.Shelf.write_faults c.drain.new.shelf) v.drains c.drain.ensures.drains

pub loop-preserved : goal.loop-preserved
loop-preserved g c =
    let v = c.loop.invariant.2 in let first = v.drains in let came = first.collects in (
      tt,
      tt,
      record {
        drains = drains_more c.args.self.now c.loop.self c.drain.new.self (g.S.Shelf.files c.args.shelf.now) (g.S.Shelf.files c.loop.shelf) (g.S.Shelf.files c.drain.new.shelf) (g.S.Shelf.write_faults c.args.shelf.now) (g.S.Shelf.write_faults c.loop.shelf) (g.S.Shelf.write_faults c.drain.new.shelf) first c.drain.ensures.drains;
        goes_on = goes_on_more g.S.Shelf.files g.S.Shelf.read_faults c.args.self.now c.loop.self c.loop.self c.drain.new.self c.args.shelf.now c.loop.shelf c.drain.new.shelf came.names refl v.goes_on c.drain.ensures.goes_on;
      },
    )
