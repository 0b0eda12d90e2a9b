use Rattle.std.proofs.Common.{sym}
use Rattle.row_tests.proofs.Freeing.{held_still, none_held_below, writing_still}
use Rattle.row_tests.proofs.stopped.free_root.Goals as goal

pub unlock-requires-2-clause-held : goal.unlock-requires-2-clause-held
unlock-requires-2-clause-held g c = held_still c.args.pass.now c.unlock.new.pass c.args.root 0 c.unlock.ensures (λ z. c.requires.some (sym z)) c.requires.zero

pub end_write-requires-clause-writing : goal.end_write-requires-clause-writing
end_write-requires-clause-writing g c = writing_still c.args.rows.now c.unlock.new.pass c.unlock-2.new.pass 0 c.args.made c.unlock-2.ensures (writing_still c.args.rows.now c.args.pass.now c.unlock.new.pass c.args.root c.args.made c.unlock.ensures c.requires.writing)

pub end_write-requires-clause-free : goal.end_write-requires-clause-free
end_write-requires-clause-free g c = none_held_below c.args.rows.now c.args.pass.now c.unlock.new.pass c.unlock-2.new.pass c.args.made c.args.root c.requires c.unlock.ensures c.unlock-2.ensures
