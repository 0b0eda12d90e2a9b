use Rattle.std.proofs.Common.{ap, refl}
use Rattle.snap_outlet.specs.Outlets.{TakerAt}
use Rattle.snap_crew.proofs.Seating.{can_sit, ready_at, seats_numbered}
use Rattle.snap_crew.proofs.scripts.run_crew.Goals as goal

pub run_all-done-requires-clause-seats : goal.run_all-done-requires-clause-seats
run_all-done-requires-clause-seats g c κs within =
    let task = c.args.task.now in let crew = c.requires.crew in can_sit task.loads.now crew.0 task.scripts.now task.replies c.args.crew crew.1 c.requires.files.apart

pub run_all-done-requires-clause-numbered : goal.run_all-done-requires-clause-numbered
run_all-done-requires-clause-numbered g c κs within =
    let task = c.args.task.now in let crew = c.requires.crew in seats_numbered task.loads.now crew.0 task.scripts.now task.replies c.args.crew crew.1

pub run_all-done-requires-clause-can : goal.run_all-done-requires-clause-can
run_all-done-requires-clause-can g c κs within = let crew = c.args.crew in let is = c.requires.crew.1 in record {
  outlet_is = ap (λ (t : TakerAt). t.outlet) is.taker;
  ready = ready_at c.args.task.now.replies c.args.made crew.taker (g.S.Shelf.files c.args.shelf.now) c.requires.files.blank;
}

pub returns-clause-ran : goal.returns-clause-ran
returns-clause-ran g c = record { end = c.run_all-done.new.collector; written_is = refl; runs = c.run_all-done.ensures.runs }
