use Rattle.std.proofs.Common.{rules, refl, sym, subst}
use Rattle.snap_steps.specs.Asking.{about_of}
use Rattle.snap_steps.specs.Counting.{Among}
use Rattle.snap_steps.specs.Seen.{Known}
use Rattle.snap_steps.specs.Steps.Births.{born}
use Rattle.snap_steps.proofs.Passing.{stays_pass, same_pairs}
use Rattle.snap_steps.proofs.Keeps.Births.{loads_birth}
use Rattle.snap_steps.proofs.births.load_birth.Goals as goal

pub load-requires-clause-step : goal.load-requires-clause-step
load-requires-clause-step c =
    loads_birth (about_of c.args.rows.now) c.args.rows.now.table.slots c.pass.inside.seat.id c.pass.inside.seat.me c.args.row c.requires.row (search rules)

pub invariant_of-pass : goal.invariant_of-pass
invariant_of-pass c = let t = c.load.ensures.step c.args.row refl in let m = c.pass.inside.seat.me in let w = born m.0 c.args.row c.load.result in
    stays_pass m c.load.new.seat.me w c.pass.inside.who c.pass.inside.uses c.pass.inside.added c.pass.inside.taken c.pass.inside.added c.pass.inside.taken c.pass.inside.owed c.pass.inside.owed c.pass.invariant.owed_is c.pass.invariant t.0 refl refl refl refl (same_pairs m.0 w c.pass.inside.added c.pass.inside.taken refl refl c.pass.invariant.pairs)

pub returns-clause-past : goal.returns-clause-past
returns-clause-past c = let t = c.load.ensures.step c.args.row refl in λ e some. t.1 e (subst (λ (k : Known). Among e k.view.words.present) (sym c.pass.view_is) some)
