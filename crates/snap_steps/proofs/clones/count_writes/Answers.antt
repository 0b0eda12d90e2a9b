use Rattle.std.proofs.Common.{rules, ap, ◌≡◌, ◌∙◌}
use Rattle.snap_steps.specs.Seen.{Known}
use Rattle.snap_steps.specs.Stages.{has_cut}
use Rattle.snap_steps.proofs.Keeps.Clones.{counts_writes}
use Rattle.snap_steps.proofs.clones.count_writes.Goals as goal

pub load-requires : goal.load-requires
load-requires c =
    let cut : has_cut c.pass.inside.seat.me.0.stage ≡ 1 = ap (λ (k : Known). has_cut k.view.stage) c.pass.view_is ∙ c.requires.cut in
    (search rules, search rules, counts_writes c.rows.inside.table.shared.key _ c.pass.inside.seat.id c.pass.inside.seat.me c.pass.invariant.pass.passing cut)
