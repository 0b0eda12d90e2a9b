use Rattle.std.proofs.Common.{subst}
use Rattle.snap_steps.specs.Owed.{ListsOnly}
use Rattle.snap_steps.specs.Seen.{Known}
use Rattle.snap_steps.proofs.Tallies.{lists_only}
use Rattle.snap_steps.proofs.pass.Pass.owes_only.Goals as goal

pub returns : goal.returns
returns c = λ yes. subst (λ (k : Known). ListsOnly c.args.row k.view.debt.list) c.self.view_is (lists_only c.self.inside.owed.listed c.args.row c.self.inside.seat.me.0.debt.list (c.is_only.ensures.0 yes) c.self.invariant.owed_is.rows)
