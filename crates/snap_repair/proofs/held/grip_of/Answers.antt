use Rattle.snap_repair.proofs.Mending.{reads_looks}
use Rattle.snap_prelude.specs.{Birth, Key, Stamp}
use Rattle.snap_repair.proofs.held.grip_of.Goals as goal

pub returns-then-stamp-ne0-clause-looks : goal.returns-then-stamp-ne0-clause-looks
returns-then-stamp-ne0-clause-looks c = reads_looks c.args.pass.now c.load_word-birth.new.pass c.load_word-stamp.new.pass c.load_key-key.new.pass c.args.row Birth Stamp Key c.load_word-birth.result c.load_word-stamp.result c.load_key-key.result c.load_word-birth.ensures.pass c.load_word-stamp.ensures.pass c.load_key-key.ensures.pass

pub returns-then-stamp-ne0-clause-grip : goal.returns-then-stamp-ne0-clause-grip
returns-then-stamp-ne0-clause-grip c = reads_looks c.args.pass.now c.load_word-birth.new.pass c.load_word-stamp.new.pass c.load_key-key.new.pass c.args.row Birth Stamp Key c.load_word-birth.result c.load_word-stamp.result c.load_key-key.result c.load_word-birth.ensures.pass c.load_word-stamp.ensures.pass c.load_key-key.ensures.pass

pub returns-then-birth-epoch-clause-looks : goal.returns-then-birth-epoch-clause-looks
returns-then-birth-epoch-clause-looks c = reads_looks c.args.pass.now c.load_word-birth.new.pass c.load_word-stamp.new.pass c.load_key-key.new.pass c.args.row Birth Stamp Key c.load_word-birth.result c.load_word-stamp.result c.load_key-key.result c.load_word-birth.ensures.pass c.load_word-stamp.ensures.pass c.load_key-key.ensures.pass

pub returns-else-birth-epoch-clause-looks : goal.returns-else-birth-epoch-clause-looks
returns-else-birth-epoch-clause-looks c = reads_looks c.args.pass.now c.load_word-birth.new.pass c.load_word-stamp.new.pass c.load_key-key.new.pass c.args.row Birth Stamp Key c.load_word-birth.result c.load_word-stamp.result c.load_key-key.result c.load_word-birth.ensures.pass c.load_word-stamp.ensures.pass c.load_key-key.ensures.pass

pub returns-else-birth-epoch-clause-grip : goal.returns-else-birth-epoch-clause-grip
returns-else-birth-epoch-clause-grip c = reads_looks c.args.pass.now c.load_word-birth.new.pass c.load_word-stamp.new.pass c.load_key-key.new.pass c.args.row Birth Stamp Key c.load_word-birth.result c.load_word-stamp.result c.load_key-key.result c.load_word-birth.ensures.pass c.load_word-stamp.ensures.pass c.load_key-key.ensures.pass
