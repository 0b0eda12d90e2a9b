use Rattle.snap_steps.proofs.Copying.{all_copied}
use Rattle.snap_steps.proofs.clones.load_row.Goals as goal

pub returns-clause-copy : goal.returns-clause-copy
returns-clause-copy g c = all_copied c.args.rows.now.rows c.args.seat.now c.copy_word-key.new.seat c.copy_word-word.new.seat c.copy_word-height.new.seat c.copy_link-left.new.seat c.args.row c.copy_word-key.result c.copy_word-word.result c.copy_word-height.result c.copy_link-left.result c.copy_link-right.result c.value_of.result
    c.copy_word-key.ensures.seat c.copy_word-word.ensures.seat c.copy_word-height.ensures.seat c.copy_link-left.ensures.seat c.copy_word-key.ensures.word c.copy_word-word.ensures.word c.copy_word-height.ensures.word c.copy_link-left.ensures.word c.copy_link-right.ensures.word c.value_of.ensures
