use Rattle.std.proofs.Common.{sym}
use Rattle.snap_repair.proofs.{GoingUp.lowest_step, Mending.looks_on, Mending.read_looks}
use Rattle.snap_search.proofs.Keeping.{way_stays}
use Rattle.snap_prelude.specs.{Key}
use Rattle.snap_repair.proofs.rising.extend_to.Goals as goal

pub load_key-lowest_key-requires-clause-row : goal.load_key-lowest_key-requires-clause-row
load_key-lowest_key-requires-clause-row c = (lowest_step c.args.rows.now.rows c.args.pass.now.view c.args.way.now.steps.items c.in-Some.lowest (sym c.in-Some.ensures) c.requires.way).low

pub returns-then-lowest_key-key-clause-looks : goal.returns-then-lowest_key-key-clause-looks
returns-then-lowest_key-key-clause-looks c = read_looks c.args.pass.now c.load_key-lowest_key.new.pass c.in-Some.lowest.row Key c.load_key-lowest_key.result c.load_key-lowest_key.ensures.pass

pub returns-then-lowest_key-key-clause-way : goal.returns-then-lowest_key-key-clause-way
returns-then-lowest_key-key-clause-way c =
    let a = c.args.pass.now in let b = c.load_key-lowest_key.new.pass in
    way_stays c.args.rows.now.rows a.view b.view c.args.way.now (read_looks a b c.in-Some.lowest.row Key c.load_key-lowest_key.result c.load_key-lowest_key.ensures.pass).0.mends.reached c.requires.way

pub keep_child-child_has_key-requires-clause-way : goal.keep_child-child_has_key-requires-clause-way
keep_child-child_has_key-requires-clause-way c =
    let a = c.args.pass.now in let b = c.load_key-lowest_key.new.pass in
    way_stays c.args.rows.now.rows a.view b.view c.args.way.now (read_looks a b c.in-Some.lowest.row Key c.load_key-lowest_key.result c.load_key-lowest_key.ensures.pass).0.mends.reached c.requires.way

pub returns-then-child_has_key-clause-looks : goal.returns-then-child_has_key-clause-looks
returns-then-child_has_key-clause-looks c =
    let a = c.args.pass.now in let b = c.load_key-lowest_key.new.pass in
    looks_on a b c.keep_child-child_has_key.new.pass (read_looks a b c.in-Some.lowest.row Key c.load_key-lowest_key.result c.load_key-lowest_key.ensures.pass) c.keep_child-child_has_key.ensures.looks

pub returns-clause-looks : goal.returns-clause-looks
returns-clause-looks c =
    let a = c.args.pass.now in let b = c.load_key-lowest_key.new.pass in let d = c.keep_child-child_has_key.new.pass in let e = c.keep_child-next_has_key.new.pass in
    looks_on a d e (looks_on a b d (read_looks a b c.in-Some.lowest.row Key c.load_key-lowest_key.result c.load_key-lowest_key.ensures.pass) c.keep_child-child_has_key.ensures.looks) c.keep_child-next_has_key.ensures.looks
