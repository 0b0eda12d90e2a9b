use Rattle.std.proofs.Common.{rules, ap, arith}
use Rattle.snap_steps.specs.Seen.{Laid}
use Rattle.snap_steps.specs.Steps.Told.{Sat}
use Rattle.snap_steps.proofs.Classes.Adding.{issues}
use Rattle.snap_steps.proofs.rows.Rows.deal.Goals as goal

pub split_seat-seat-requires : goal.split_seat-seat-requires
split_seat-seat-requires c = let e = c.loop-who.invariant.1 in (
  search rules,
  omega (arith, c.self.invariant.words_are),
  issues c.self.inside.table.shared.key c.loop-who.opener.id c.loop-who.opener.me.0 (ap (λ (m : Sat). m.0.role) e) (ap (λ (m : Sat). m.0.stage) e) (omega (arith, ap (λ (m : Sat). m.0.who) e, ap (λ (t : Laid). t.passes) c.self.view_is, c.requires.laid.passes_are, c.loop-who-test.true)),
)
