use Rattle.snap_io.proofs.FailedCalls.{failed_append}
use Rattle.snap_io.proofs.mem_shelf.MemShelfShelf.append.Goals as goal
use Rattle.snap_io.specs.MemShelf.{stored_files}

pub returns-in-Some-Err-clause-files : goal.returns-in-Some-Err-clause-files
returns-in-Some-Err-clause-files c =
    let refused = rw c.in-Some-Err.field-0-is at c.in-Some-Err.ensures.refused in
    failed_append c.args.name.now c.args.bytes.now (stored_files c.args.self.now.held) (stored_files c.grow.new.held) c.counted-in-Some-Err.result refused

pub returns-in-None-clause-files : goal.returns-in-None-clause-files
returns-in-None-clause-files c =
    failed_append c.args.name.now c.args.bytes.now (stored_files c.args.self.now.held) (stored_files c.grow.new.held) (record {}) c.in-None.ensures.same
