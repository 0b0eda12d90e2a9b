use Rattle.std.proofs.Common.{◌≢◌, arith, rules, sym}
use Rattle.snap_repair.proofs.GoingUp.{child_low, child_step, lowest_step}
use Rattle.snap_repair.proofs.Mending.{looks_on, read_looks}
use Rattle.snap_search.proofs.Keeping.{way_kept, way_stays}
use Rattle.snap_prelude.specs.{Key}
use Rattle.snap_repair.proofs.rising.keep_child.Goals as goal

pub load_word-word-requires-clause-row : goal.load_word-word-requires-clause-row
load_word-word-requires-clause-row c = (lowest_step c.args.rows.now.rows c.args.pass.now.view c.args.way.now.steps.items c.in-Some.lowest (sym c.in-Some.ensures) c.requires.way).low

pub row_of-child-requires : goal.row_of-child-requires
row_of-child-requires c = let v = c.args.pass.now.view in let s = c.in-Some.lowest in
    child_low c.args.rows.now.rows v s c.link.result c.load_word-word.result (lowest_step c.args.rows.now.rows v c.args.way.now.steps.items s (sym c.in-Some.ensures) c.requires.way) c.link.ensures c.load_word-word.ensures.led

pub load_key-child_key-requires-clause-row : goal.load_key-child_key-requires-clause-row
load_key-child_key-requires-clause-row c = let v = c.args.pass.now.view in let s = c.in-Some.lowest in
    omega (arith, c.row_of-child.ensures, child_low c.args.rows.now.rows v s c.link.result c.load_word-word.result (lowest_step c.args.rows.now.rows v c.args.way.now.steps.items s (sym c.in-Some.ensures) c.requires.way) c.link.ensures c.load_word-word.ensures.led)

pub returns-then-is_none-clause-looks : goal.returns-then-is_none-clause-looks
returns-then-is_none-clause-looks c = read_looks c.args.pass.now c.load_word-word.new.pass c.in-Some.lowest.row c.link.result c.load_word-word.result c.load_word-word.ensures.pass

pub returns-then-is_none-clause-way : goal.returns-then-is_none-clause-way
returns-then-is_none-clause-way c = let a = c.args.pass.now in let b = c.load_word-word.new.pass in
    way_stays c.args.rows.now.rows a.view b.view c.args.way.now (read_looks a b c.in-Some.lowest.row c.link.result c.load_word-word.result c.load_word-word.ensures.pass).0.mends.reached c.requires.way

pub returns-clause-looks : goal.returns-clause-looks
returns-clause-looks c = let a = c.args.pass.now in let b = c.load_word-word.new.pass in let d = c.load_key-child_key.new.pass in
    looks_on a b d (read_looks a b c.in-Some.lowest.row c.link.result c.load_word-word.result c.load_word-word.ensures.pass) (read_looks b d c.row_of-child.result Key c.load_key-child_key.result c.load_key-child_key.ensures.pass)

pub returns-clause-way : goal.returns-clause-way
returns-clause-way c = let a = c.args.pass.now in let b = c.load_word-word.new.pass in let d = c.load_key-child_key.new.pass in
    let rows = c.args.rows.now.rows in let s = c.in-Some.lowest in let child = c.row_of-child.result in
    let first = read_looks a b s.row c.link.result c.load_word-word.result c.load_word-word.ensures.pass in let second = read_looks b d child Key c.load_key-child_key.result c.load_key-child_key.ensures.pass in
    let step = lowest_step rows a.view c.args.way.now.steps.items s (sym c.in-Some.ensures) c.requires.way in
    let some : child ≢ 0 = search rules in
    let low = child_low rows a.view s c.link.result c.load_word-word.result step c.link.ensures c.load_word-word.ensures.led in
    way_kept rows d.view c.args.way.now c.keep.new.self (record { row = child; side = c.side_from-side.result })
    (child_step rows a b d.view s (record { row = child; side = c.side_from-side.result }) c.link.result c.load_word-word.result step c.link.ensures c.load_word-word.ensures.pass second.0.mends.reached low c.row_of-child.ensures some)
    c.keep.ensures.steps (way_stays rows a.view d.view c.args.way.now (looks_on a b d first second).0.mends.reached c.requires.way)
