use Rattle.snap_table.proofs.Gated.{ready}
use Rattle.row_tests.proofs.stopped.begin_write.Goals as goal

pub write-requires-clause-ready : goal.write-requires-clause-ready
write-requires-clause-ready g c = ready c.args.pass.now c.enter.new.pass _ c.requires.idle c.enter.ensures
