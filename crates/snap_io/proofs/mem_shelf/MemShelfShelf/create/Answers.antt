use Rattle.snap_io.proofs.FailedCalls.{failed_create}
use Rattle.snap_io.proofs.mem_shelf.MemShelfShelf.create.Goals as goal
use Rattle.snap_io.specs.MemShelf.{stored_files}

pub returns-in-Err-clause-files : goal.returns-in-Err-clause-files
returns-in-Err-clause-files c =
    failed_create c.args.name.now (stored_files c.args.self.now.held) (stored_files c.set_file.new.held) c.counted-in-Err.result c.in-Err.ensures.refused
