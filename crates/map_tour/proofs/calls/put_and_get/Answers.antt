use Rattle.map_tour.proofs.Told.{reads_own}
use Rattle.map_tour.proofs.calls.put_and_get.Goals as goal

pub returns-clause-own : goal.returns-clause-own
returns-clause-own g c = reads_own c.args.pass.now c.put.new.pass c.get.new.pass c.args.key c.args.value _ c.get.result c.in_ok-put.ensures c.get.ensures
