use Rattle.snap_crew.proofs.{Ended.if_ended, Ended.is_end, Speaking.all_speak}
use Rattle.snap_crew.proofs.ending.end_run.Goals as goal

pub close_with_text-requires-clause-all : goal.close_with_text-requires-clause-all
close_with_text-requires-clause-all g c = all_speak c.args.service c.admit_all.new.own c.args.receipts.items c.requires.tables c.admit_all.ensures.kit c.admit_all.ensures.uncut c.requires.every_kit c.requires.receipts c.requires.numbered c.admit_all.ensures.all

pub close_plainly-requires-clause-all : goal.close_plainly-requires-clause-all
close_plainly-requires-clause-all g c = all_speak c.args.service c.admit_all.new.own c.args.receipts.items c.requires.tables c.admit_all.ensures.kit c.admit_all.ensures.uncut c.requires.every_kit c.requires.receipts c.requires.numbered c.admit_all.ensures.all

pub returns-then-last : goal.returns-then-last
returns-then-last g c = if_ended c.args.service c.admit_all.new.own c.args.receipts.items c.args.last _ c.if-last.true c.close_with_text.result c.requires.every_kit c.requires.receipts c.admit_all.ensures.all c.close_with_text.ensures

pub returns-else-last : goal.returns-else-last
returns-else-last g c = is_end c.args.service c.admit_all.new.own c.args.receipts.items c.args.last _ c.if-last.false c.close_plainly.result c.requires.every_kit c.requires.receipts c.admit_all.ensures.all c.close_plainly.ensures
