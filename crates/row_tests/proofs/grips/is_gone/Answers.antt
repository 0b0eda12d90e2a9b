use Rattle.row_tests.proofs.Taking.{words_look}
use Rattle.row_tests.proofs.grips.is_gone.Goals as goal

pub returns-then-value-ne0-clause-looks : goal.returns-then-value-ne0-clause-looks
returns-then-value-ne0-clause-looks c = words_look c.args.pass.now c.load_word-value.new.pass c.load_word-left.new.pass c.load_word-right.new.pass c.args.row.now.row c.load_word-value.result c.load_word-left.result c.load_word-right.result c.load_word-value.ensures.pass c.load_word-left.ensures.pass c.load_word-right.ensures.pass
