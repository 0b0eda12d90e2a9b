use Rattle.std.proofs.Common.{arith, sym, subst, ℕ, ◌≤◌}
use Rattle.snap_steps.specs.Clones.{image, TellsWord}
use Rattle.snap_steps.proofs.Copying.{link_low}
use Rattle.snap_steps.proofs.clones.copy_link.Goals as goal

pub row_of-requires : goal.row_of-requires
row_of-requires c = let l = link_low c.args.rows.now.rows (image c.args.seat.now) c.args.row c.copy_word-word.result c.args.field c.requires.link c.requires.clone c.copy_word-word.ensures.word in omega (arith, l)

pub returns-clause-word : goal.returns-clause-word
returns-clause-word c = subst (λ (x : ℕ). TellsWord c.args.rows.now.rows (image c.args.seat.now) c.args.row c.args.field x) (sym c.row_of.ensures) c.copy_word-word.ensures.word

pub returns-clause-low : goal.returns-clause-low
returns-clause-low c = let l = link_low c.args.rows.now.rows (image c.args.seat.now) c.args.row c.copy_word-word.result c.args.field c.requires.link c.requires.clone c.copy_word-word.ensures.word in subst (λ (x : ℕ). x ≤ c.args.rows.now.rows) (sym c.row_of.ensures) l
