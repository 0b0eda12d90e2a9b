use Rattle.std.proofs.Common.{ℕ, ◌≤◌, sym, subst}
use Rattle.snap_shape.proofs.Children.{low_any, any_reached}
use Rattle.snap_shape.proofs.child_of.Goals as goal

pub row_of-requires : goal.row_of-requires
row_of-requires c = low_any c.args.pass.now.view c.args.rows.now.rows c.args.parent.now c.args.side c.link.result c.load_word-word.result c.requires.on_right c.requires.grip c.link.ensures c.load_word-word.ensures.led

pub returns-clause-low : goal.returns-clause-low
returns-clause-low c = subst (λ (y : ℕ). y ≤ c.args.rows.now.rows) (sym c.row_of.ensures) (low_any c.args.pass.now.view c.args.rows.now.rows c.args.parent.now c.args.side c.link.result c.load_word-word.result c.requires.on_right c.requires.grip c.link.ensures c.load_word-word.ensures.led)

pub returns-clause-reached : goal.returns-clause-reached
returns-clause-reached c = any_reached c.args.pass.now c.load_word-word.new.pass c.args.parent.now c.args.side c.link.result c.load_word-word.result c.row_of.result c.requires.on_right c.requires.grip c.link.ensures c.row_of.ensures c.load_word-word.ensures.pass
