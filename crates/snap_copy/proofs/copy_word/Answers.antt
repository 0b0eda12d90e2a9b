use Rattle.snap_copy.proofs.Copying.{word_copied}
use Rattle.snap_copy.proofs.copy_word.Goals as goal

pub returns : goal.returns
returns c = word_copied c.args.pass.now c.load_shared-word.new.pass c.store_own.new.pass c.args.child c.args.copy c.load_shared-word.result c.args.field c.load_shared-word.ensures c.store_own.ensures
