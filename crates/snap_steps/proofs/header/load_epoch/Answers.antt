use Rattle.std.proofs.Common.{rules, subst, sym}
use Rattle.snap_steps.specs.Counting.{Among}
use Rattle.snap_steps.specs.Seen.{Known}
use Rattle.snap_steps.proofs.Keeps.Header.{loads_epoch}
use Rattle.snap_steps.proofs.header.load_epoch.Goals as goal

pub load-requires : goal.load-requires
load-requires c = (search rules, search rules, loads_epoch c.rows.inside.table.shared.key _ c.pass.inside.seat.id c.pass.inside.seat.me)

pub returns-clause-same : goal.returns-clause-same
returns-clause-same c = λ e some. c.load.ensures.2.2 e (subst (λ (k : Known). Among e k.view.words.present) (sym c.pass.view_is) some)
