use Rattle.std.proofs.Common.{rules, ◌≡◌, ap, ◌∙◌, arith}
use Rattle.snap_steps.specs.Asking.{about_of}
use Rattle.snap_steps.specs.Seen.{Known}
use Rattle.snap_steps.specs.Stages.{has_cut}
use Rattle.snap_steps.proofs.Keeps.Clones.{loads_root}
use Rattle.snap_steps.proofs.clones.load_root.Goals as goal

pub load-found-requires-clause-step : goal.load-found-requires-clause-step
load-found-requires-clause-step c = let cut : has_cut c.pass.inside.seat.me.0.stage ≡ 1 = ap (λ (k : Known). has_cut k.view.stage) c.pass.view_is ∙ c.requires.cut in
    loads_root (about_of c.args.rows.now) c.args.rows.now.table.slots c.pass.inside.seat.id c.pass.inside.seat.me c.pass.invariant.pass.passing cut

pub row_of-requires : goal.row_of-requires
row_of-requires c =
    let rows_are : c.args.pass.now.view.rows ≡ c.args.rows.now.rows = search rules in
    omega (arith, c.load-found.ensures.step.2, ap (λ (k : Known). k.view.rows) c.pass.view_is, rows_are)
