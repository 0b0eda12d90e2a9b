use Rattle.std.proofs.Common.{sym}
use Rattle.row_tests.proofs.Freeing.{held_still, none_held, writing_still}
use Rattle.row_tests.proofs.stopped.free_and_end.Goals as goal

pub unlock-requires-2-clause-held : goal.unlock-requires-2-clause-held
unlock-requires-2-clause-held g c = let h = c.requires.turn in let t = c.args.turn.now in held_still c.args.pass.now c.unlock.new.pass t.row.row t.raised.row c.unlock.ensures (λ z. h.apart.2 (sym z)) h.raised

pub unlock-requires-3-clause-held : goal.unlock-requires-3-clause-held
unlock-requires-3-clause-held g c =
    let h = c.requires.turn in let t = c.args.turn.now in
    let first = held_still c.args.pass.now c.unlock.new.pass t.row.row t.parent.row c.unlock.ensures h.apart.0 h.upper in
    held_still c.unlock.new.pass c.unlock-2.new.pass t.raised.row t.parent.row c.unlock-2.ensures h.apart.1 first

pub unlock-requires-4-clause-held : goal.unlock-requires-4-clause-held
unlock-requires-4-clause-held g c =
    let h = c.requires.turn in let t = c.args.turn.now in
    let first = held_still c.args.pass.now c.unlock.new.pass t.row.row 0 c.unlock.ensures (λ z. h.some.1 (sym z)) h.zero in
    let second = held_still c.unlock.new.pass c.unlock-2.new.pass t.raised.row 0 c.unlock-2.ensures (λ z. h.some.2 (sym z)) first in
    held_still c.unlock-2.new.pass c.unlock-3.new.pass t.parent.row 0 c.unlock-3.ensures (λ z. h.some.0 (sym z)) second

pub end_write-requires-clause-writing : goal.end_write-requires-clause-writing
end_write-requires-clause-writing g c =
    let rows = c.args.rows.now in let made = c.args.made in let t = c.args.turn.now in let a = c.args.pass.now in let b = c.unlock.new.pass in let d = c.unlock-2.new.pass in let e = c.unlock-3.new.pass in let f = c.unlock-4.new.pass in
    writing_still rows e f 0 made c.unlock-4.ensures (writing_still rows d e t.parent.row made c.unlock-3.ensures (writing_still rows b d t.raised.row made c.unlock-2.ensures (writing_still rows a b t.row.row made c.unlock.ensures c.requires.turn.writing)))

pub end_write-requires-clause-free : goal.end_write-requires-clause-free
end_write-requires-clause-free g c = none_held c.args.rows.now c.args.pass.now c.unlock.new.pass c.unlock-2.new.pass c.unlock-3.new.pass c.unlock-4.new.pass c.args.made c.args.turn.now c.requires.turn c.unlock.ensures c.unlock-2.ensures c.unlock-3.ensures c.unlock-4.ensures
