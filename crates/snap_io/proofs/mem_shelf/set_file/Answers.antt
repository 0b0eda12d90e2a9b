use Rattle.snap_io.proofs.StoredFiles.{sets_file}
use Rattle.snap_io.proofs.mem_shelf.set_file.Goals as goal

pub returns-clause-set : goal.returns-clause-set
returns-clause-set c = rw (← c.in_ok-bytes.ensures.items) (sets_file _ c.args.name.now c.args.held.now c.insert.new.self c.in_ok-bytes.bytes c.in_ok-key.ensures.ok c.in_ok-insert.ensures.updates)
