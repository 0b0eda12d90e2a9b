use Rattle.std.proofs.Common.{rules, arith, ◌≢◌, []}
use Rattle.snap_copy.specs.declared.Wanted.{Wanted}
use Rattle.snap_update.proofs.{Going.goes_works, Sharing.above, Sharing.brings_none, Sharing.brings_own, Sharing.looked}
use Rattle.snap_update.proofs.shared.own_below.Goals as goal

pub returns-then-load_word-eq0 : goal.returns-then-load_word-eq0
returns-then-load_word-eq0 g c =
    let s = c.args.gap.now.at in
    ([], [], goes_works c.args.pass.now c.load_word.new.pass c.args.key [] (looked c.args.pass.now c.is_place.new.pass c.load_word.new.pass s.row s.stamp c.load_word.result c.link.result c.if-not-is_place.ensures c.load_word.ensures.pass), omega arith)

pub own_child-requires-clause-place : goal.own_child-requires-clause-place
own_child-requires-clause-place g c =
    let s = c.args.gap.now.at in let w = c.requires.at_work in let p = c.requires.place in
    let some_row : c.load_word.result ≢ 0 = search rules in
    above c.args.pass.now c.is_place.new.pass c.load_word.new.pass c.args.key s.row s.stamp c.load_word.result s.side c.link.result w.held p.reached p.faces w.copies p.place c.if-not-is_place.ensures c.load_word.ensures.pass c.link.ensures some_row

pub returns-in-Ok : goal.returns-in-Ok
returns-in-Ok g c =
    let s = c.args.gap.now.at in let at : Wanted = record { parent = s.row; side = s.side; epoch = c.args.gap.now.epoch } in
    brings_own c.args.rows.now.rows c.args.pass.now c.load_word.new.pass c.own_child.new.pass c.args.key at c.in-Ok.field-0 (looked c.args.pass.now c.is_place.new.pass c.load_word.new.pass s.row s.stamp c.load_word.result c.link.result c.if-not-is_place.ensures c.load_word.ensures.pass) c.in-Ok.ensures.owns

pub returns-in-Err : goal.returns-in-Err
returns-in-Err g c =
    let s = c.args.gap.now.at in
    let t = brings_none c.args.rows.now.rows c.args.pass.now c.load_word.new.pass c.own_child.new.pass c.args.key s.row s.side (looked c.args.pass.now c.is_place.new.pass c.load_word.new.pass s.row s.stamp c.load_word.result c.link.result c.if-not-is_place.ensures c.load_word.ensures.pass) c.in-Err.ensures.lacks in
    (c.in-Err.ensures.all, t.0, t.1, t.2)

pub returns-then-not-is_place : goal.returns-then-not-is_place
returns-then-not-is_place g c = ([], [], goes_works c.args.pass.now c.is_place.new.pass c.args.key [] c.if-not-is_place.ensures.works, omega arith)
