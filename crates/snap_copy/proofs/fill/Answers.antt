use Rattle.snap_copy.proofs.Copying.{copy_filled}
use Rattle.snap_copy.proofs.fill.Goals as goal

pub returns : goal.returns
returns c = copy_filled c.args.pass.now c.copy_word.new.pass c.copy_word-2.new.pass c.copy_word-3.new.pass c.copy_word-4.new.pass c.copy_word-5.new.pass c.store_own.new.pass c.args.child c.args.copy c.args.epoch c.requires.own c.requires.epoch c.copy_word.ensures c.copy_word-2.ensures c.copy_word-3.ensures c.copy_word-4.ensures c.copy_word-5.ensures c.store_own.ensures
