use Rattle.snap_copy.proofs.Copying.{looks, is_older, lacks_at, owns_copy, owns_own, drawn_keeps}
use Rattle.snap_copy.proofs.Keeping.{older_still, place_still}
use Rattle.snap_prelude.proofs.Common.{held_link}
use Rattle.snap_copy.proofs.own_at.Goals as goal

pub child_of-child-requires-clause-place : goal.child_of-child-requires-clause-place
child_of-child-requires-clause-place g c = let p = c.requires.place in let at = c.args.at.now in (p.0, p.1, held_link c.args.pass.now.view c.args.key at.parent at.side p.0 p.2)

pub returns-then-birth-at : goal.returns-then-birth-at
returns-then-birth-at g c =
    let at = c.args.at.now in
    let l = looks c.args.rows.now.rows c.args.pass.now c.child_of-child.new.pass c.load_birth-birth.new.pass c.args.key at c.child_of-child.result c.load_birth-birth.result c.requires.epoch c.requires.place c.child_of-child.ensures c.load_birth-birth.ensures.pass c.load_birth-birth.ensures.past in
    owns_own c.args.rows.now.rows c.args.pass.now c.load_birth-birth.new.pass c.args.key at c.child_of-child.result c.load_birth-birth.result l c.if-birth-at.true

pub fill-requires-clause-older : goal.fill-requires-clause-older
fill-requires-clause-older g c =
    let at = c.args.at.now in
    let l = looks c.args.rows.now.rows c.args.pass.now c.child_of-child.new.pass c.load_birth-birth.new.pass c.args.key at c.child_of-child.result c.load_birth-birth.result c.requires.epoch c.requires.place c.child_of-child.ensures c.load_birth-birth.ensures.pass c.load_birth-birth.ensures.past in
    older_still c.load_birth-birth.new.pass.view c.draw.new.pass.view c.child_of-child.result (drawn_keeps c.args.rows.now.rows c.load_birth-birth.new.pass c.draw.new.pass c.in-Ok.copy c.in-Ok.ensures) (is_older c.args.rows.now.rows c.args.pass.now c.load_birth-birth.new.pass c.args.key at c.child_of-child.result c.load_birth-birth.result l c.if-birth-at.false)

pub link_copy-requires-clause-place : goal.link_copy-requires-clause-place
link_copy-requires-clause-place g c =
    let at = c.args.at.now in
    let l = looks c.args.rows.now.rows c.args.pass.now c.child_of-child.new.pass c.load_birth-birth.new.pass c.args.key at c.child_of-child.result c.load_birth-birth.result c.requires.epoch c.requires.place c.child_of-child.ensures c.load_birth-birth.ensures.pass c.load_birth-birth.ensures.past in
    place_still c.draw.new.pass.view c.fill.new.pass.view c.args.key at.parent at.side c.child_of-child.result c.fill.ensures.keeps (place_still c.load_birth-birth.new.pass.view c.draw.new.pass.view c.args.key at.parent at.side c.child_of-child.result (drawn_keeps c.args.rows.now.rows c.load_birth-birth.new.pass c.draw.new.pass c.in-Ok.copy c.in-Ok.ensures) l.place)

pub link_copy-requires-clause-older : goal.link_copy-requires-clause-older
link_copy-requires-clause-older g c =
    let at = c.args.at.now in
    let l = looks c.args.rows.now.rows c.args.pass.now c.child_of-child.new.pass c.load_birth-birth.new.pass c.args.key at c.child_of-child.result c.load_birth-birth.result c.requires.epoch c.requires.place c.child_of-child.ensures c.load_birth-birth.ensures.pass c.load_birth-birth.ensures.past in
    let older = is_older c.args.rows.now.rows c.args.pass.now c.load_birth-birth.new.pass c.args.key at c.child_of-child.result c.load_birth-birth.result l c.if-birth-at.false in
    older_still c.draw.new.pass.view c.fill.new.pass.view c.child_of-child.result c.fill.ensures.keeps (older_still c.load_birth-birth.new.pass.view c.draw.new.pass.view c.child_of-child.result (drawn_keeps c.args.rows.now.rows c.load_birth-birth.new.pass c.draw.new.pass c.in-Ok.copy c.in-Ok.ensures) older)

pub returns-in-Ok : goal.returns-in-Ok
returns-in-Ok g c =
    let at = c.args.at.now in
    let l = looks c.args.rows.now.rows c.args.pass.now c.child_of-child.new.pass c.load_birth-birth.new.pass c.args.key at c.child_of-child.result c.load_birth-birth.result c.requires.epoch c.requires.place c.child_of-child.ensures c.load_birth-birth.ensures.pass c.load_birth-birth.ensures.past in
    owns_copy c.args.rows.now.rows c.args.pass.now c.load_birth-birth.new.pass c.draw.new.pass c.fill.new.pass c.link_copy.new.pass c.args.key at c.child_of-child.result c.load_birth-birth.result c.in-Ok.copy c.requires.table.1 l c.if-birth-at.false c.in-Ok.ensures c.fill.ensures c.link_copy.ensures

pub returns-in-Err : goal.returns-in-Err
returns-in-Err g c =
    let at = c.args.at.now in
    let l = looks c.args.rows.now.rows c.args.pass.now c.child_of-child.new.pass c.load_birth-birth.new.pass c.args.key at c.child_of-child.result c.load_birth-birth.result c.requires.epoch c.requires.place c.child_of-child.ensures c.load_birth-birth.ensures.pass c.load_birth-birth.ensures.past in
    lacks_at c.args.rows.now.rows c.in-Err.full.rows c.args.pass.now c.load_birth-birth.new.pass c.draw.new.pass c.args.key at c.child_of-child.result c.load_birth-birth.result l c.if-birth-at.false c.in-Err.ensures.0 c.in-Err.ensures.1
