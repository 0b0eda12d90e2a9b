use Rattle.snap_copy.proofs.Copying.{low_child, child_found}
use Rattle.snap_copy.proofs.child_of.Goals as goal

pub row_of-requires : goal.row_of-requires
row_of-requires c = let p = c.requires.place in low_child c.args.pass.now.view c.args.rows.now.rows c.args.parent c.load_word-word.result c.args.side c.link.result p.0 p.1 p.2 c.link.ensures c.load_word-word.ensures.known c.load_word-word.ensures.led

pub returns : goal.returns
returns c = let p = c.requires.place in
    child_found c.args.rows.now.rows c.args.pass.now c.load_word-word.new.pass c.args.parent c.load_word-word.result c.row_of.result c.args.side c.link.result p.0 p.1 p.2 c.link.ensures c.load_word-word.ensures.pass c.load_word-word.ensures.known
    (low_child c.args.pass.now.view c.args.rows.now.rows c.args.parent c.load_word-word.result c.args.side c.link.result p.0 p.1 p.2 c.link.ensures c.load_word-word.ensures.known c.load_word-word.ensures.led) c.row_of.ensures
