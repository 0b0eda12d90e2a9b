use Rattle.std.proofs.Common.{ap}
use Rattle.snap_crew.proofs.Carrying.{crew_kept, ran_if}
use Rattle.snap_crew.proofs.scripts.run_jobs.Goals as goal

pub returns-clause-kept : goal.returns-clause-kept
returns-clause-kept g c =
    let task = c.args.task.now in
    crew_kept task.loads.now c.args.service.now task.scripts.now task.replies c.args.made c.in_ok-crew.crew c.run_crew-done.result.0.items c.run_crew-done.result.1 (g.S.Shelf.files c.args.shelf.now) (g.S.Shelf.files c.run_crew-done.new.shelf) (g.S.Shelf.write_faults c.args.shelf.now) (g.S.Shelf.write_faults c.run_crew-done.new.shelf)
    c.in_ok-crew.ensures c.run_crew-done.ensures.ran c.requires.files.apart (λ no. ap g.S.Shelf.files (let k = c.run_crew-done.ensures.none no in k.0))

pub returns-clause-ran : goal.returns-clause-ran
returns-clause-ran g c =
    let task = c.args.task.now in
    ran_if task.loads.now c.args.service.now task.scripts.now task.replies c.args.made c.in_ok-crew.crew c.run_crew-done.result.0.items c.run_crew-done.result.1 (g.S.Shelf.files c.args.shelf.now) (g.S.Shelf.files c.run_crew-done.new.shelf) (g.S.Shelf.write_faults c.args.shelf.now) (g.S.Shelf.write_faults c.run_crew-done.new.shelf)
    c.in_ok-crew.ensures c.run_crew-done.ensures.ran c.parted.result c.parted.ensures.receipts c.parted.ensures.fulls c.parted.ensures.written c.parted.ensures.came c.requires.files.apart c.requires.files.blank (λ no. let k = c.run_crew-done.ensures.none no in (ap g.S.Shelf.files k.0, k.1))
