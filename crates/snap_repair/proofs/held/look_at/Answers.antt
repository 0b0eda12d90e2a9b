use Rattle.snap_repair.proofs.Mending.{grip_looks, looks_on, read_looks}
use Rattle.snap_prelude.specs.{Height, link_field, Side, Value}
use Rattle.snap_repair.proofs.held.look_at.Goals as goal

pub child_of-right-requires-clause-grip : goal.child_of-right-requires-clause-grip
child_of-right-requires-clause-grip c =
    let a = c.args.pass.now in let b = c.load_word-value.new.pass in let d = c.load_word-height.new.pass in let e = c.child_of-left.new.pass in
    let n = c.args.row.now.row in
    grip_looks a e c.args.row.now (looks_on a d e (looks_on a b d (read_looks a b n Value c.load_word-value.result c.load_word-value.ensures.pass) (read_looks b d n Height c.load_word-height.result c.load_word-height.ensures.pass)) (read_looks d e n (link_field Side.Left) c.child_of-left.result c.child_of-left.ensures.pass)) c.requires.grip

pub height_below-left_height-requires-clause-grip : goal.height_below-left_height-requires-clause-grip
height_below-left_height-requires-clause-grip c =
    let a = c.args.pass.now in let b = c.load_word-value.new.pass in let d = c.load_word-height.new.pass in let e = c.child_of-left.new.pass in let f = c.child_of-right.new.pass in
    let n = c.args.row.now.row in
    grip_looks a f c.args.row.now (looks_on a e f (looks_on a d e (looks_on a b d (read_looks a b n Value c.load_word-value.result c.load_word-value.ensures.pass) (read_looks b d n Height c.load_word-height.result c.load_word-height.ensures.pass)) (read_looks d e n (link_field Side.Left) c.child_of-left.result c.child_of-left.ensures.pass)) (read_looks e f n (link_field Side.Right) c.child_of-right.result c.child_of-right.ensures.pass)) c.requires.grip

pub height_below-right_height-requires-clause-grip : goal.height_below-right_height-requires-clause-grip
height_below-right_height-requires-clause-grip c =
    let a = c.args.pass.now in let b = c.load_word-value.new.pass in let d = c.load_word-height.new.pass in let e = c.child_of-left.new.pass in let f = c.child_of-right.new.pass in let h = c.height_below-left_height.new.pass in
    let n = c.args.row.now.row in
    grip_looks a h c.args.row.now (looks_on a f h (looks_on a e f (looks_on a d e (looks_on a b d (read_looks a b n Value c.load_word-value.result c.load_word-value.ensures.pass) (read_looks b d n Height c.load_word-height.result c.load_word-height.ensures.pass)) (read_looks d e n (link_field Side.Left) c.child_of-left.result c.child_of-left.ensures.pass)) (read_looks e f n (link_field Side.Right) c.child_of-right.result c.child_of-right.ensures.pass)) c.height_below-left_height.ensures.looks) c.requires.grip

pub returns-clause-looks : goal.returns-clause-looks
returns-clause-looks c =
    let a = c.args.pass.now in let b = c.load_word-value.new.pass in let d = c.load_word-height.new.pass in let e = c.child_of-left.new.pass in let f = c.child_of-right.new.pass in let h = c.height_below-left_height.new.pass in let i = c.height_below-right_height.new.pass in
    let n = c.args.row.now.row in
    looks_on a h i (looks_on a f h (looks_on a e f (looks_on a d e (looks_on a b d (read_looks a b n Value c.load_word-value.result c.load_word-value.ensures.pass) (read_looks b d n Height c.load_word-height.result c.load_word-height.ensures.pass)) (read_looks d e n (link_field Side.Left) c.child_of-left.result c.child_of-left.ensures.pass)) (read_looks e f n (link_field Side.Right) c.child_of-right.result c.child_of-right.ensures.pass)) c.height_below-left_height.ensures.looks) c.height_below-right_height.ensures.looks
