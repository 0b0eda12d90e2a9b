use Rattle.snap_update.proofs.Filling.{fills}
use Rattle.snap_update.proofs.below.fill.Goals as goal

pub returns : goal.returns
returns c = let p = c.args.pair.now in
    fills c.args.pass.now c.store_own.new.pass c.store_own-2.new.pass c.store_own-3.new.pass c.store_own-4.new.pass c.store_own-5.new.pass c.store_own-6.new.pass c.args.leaf p.key c.args.epoch p.value c.requires.own c.requires.epoch c.store_own.ensures c.store_own-2.ensures c.store_own-3.ensures c.store_own-4.ensures c.store_own-5.ensures c.store_own-6.ensures
