use Rattle.std.proofs.Common.{◌∙◌, ℕ, Option, Some, refl, sym, subst}
use Rattle.snap_prelude.specs.{after, at, Cloned, image}
use Rattle.snap_view.specs.Ahead.{AreAheadOf, ArePassed}
use Rattle.snap_view.proofs.Passing.{HasPassed, passed_none, turn_fewer, turn_passed}
use Rattle.snap_view.proofs.table_view.TableView.next_pair.Goals as goal

pub loop-next-init : goal.loop-next-init
loop-next-init g c = (refl, passed_none (at (after c.args.self.now.base)) c.args.side c.args.from c.ranges.from.fits, c.requires.ahead)

pub next_row-requires : goal.next_row-requires
next_row-requires g c =
    let are = subst (λ (o : Option ℕ). AreAheadOf c.args.side o (image c.args.self.now) c.loop-next.ahead) c.in-Some.is c.loop-next.invariant.2 in
    subst (λ (k : Cloned). AreAheadOf c.args.side (Some c.in-Some.key) (image k) c.loop-next.ahead) (sym c.loop-next.invariant.0) are

pub loop-next-smaller : goal.loop-next-smaller
loop-next-smaller g c = turn_fewer c.args.self.now c.loop-next.self c.args.side c.args.from c.in-Some.key c.in_ok-row.row c.in_ok-row.value c.loop-next.next c.behind-next.result c.loop-next.invariant.0 c.in-Some.is c.loop-next.invariant.1 c.in_ok-row.ensures.nearest c.behind-next.ensures

pub loop-next-preserved : goal.loop-next-preserved
loop-next-preserved g c =
    let are = subst (λ (k : Cloned). ArePassed c.args.side (image k) (Some (c.in_ok-row.row, c.in_ok-row.value)) c.next_row.new.ahead) c.loop-next.invariant.0 c.in_ok-row.ensures.ahead in (
      c.in_ok-row.ensures.view ∙ c.loop-next.invariant.0,
      turn_passed c.args.self.now c.loop-next.self c.args.side c.args.from c.in-Some.key c.in_ok-row.row c.in_ok-row.value c.loop-next.next c.behind-next.result c.loop-next.invariant.0 c.in-Some.is c.loop-next.invariant.1 c.in_ok-row.ensures.nearest c.behind-next.ensures c.in_default-value.is,
      are c.behind-next.result c.behind-next.ensures,
    )

pub returns-clause-nearest : goal.returns-clause-nearest
returns-clause-nearest g c = subst (HasPassed (at (after c.args.self.now.base)) c.args.side c.args.from) c.in_default.is c.loop-next.invariant.1
