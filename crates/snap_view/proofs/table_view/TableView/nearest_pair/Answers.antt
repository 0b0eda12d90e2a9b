use Rattle.std.proofs.Common.{◌≡◌, ◌∙◌, ◌+◌, ◌≤◌, ◌^◌, ℕ, Option, Some, refl, subst}
use Rattle.snap_prelude.specs.{after, at, Between, Cloned, depth, image, Tree}
use Rattle.snap_view.specs.Nearest.{nearest_row}
use Rattle.snap_view.proofs.Blanks.{HasSpent, spent_none, spent_on}
use Rattle.snap_view.proofs.Passing.{HasPassed, passed_none, turn_fewer, turn_passed}
use Rattle.snap_view.proofs.table_view.TableView.nearest_pair.Goals as goal

pub loop-next-init : goal.loop-next-init
loop-next-init g c = (refl, passed_none (at (after c.args.self.now.base)) c.args.side c.args.from c.ranges.from.fits, spent_none (image c.args.self.now) c.args.side c.args.from c.args.steps.now)

pub loop-next-smaller : goal.loop-next-smaller
loop-next-smaller g c = turn_fewer c.args.self.now c.loop-next.self c.args.side c.args.from c.in-Some.key c.in_ok-row.row c.in_ok-row.value c.loop-next.next c.behind-next.result c.loop-next.invariant.0 c.in-Some.is c.loop-next.invariant.1 c.in_ok-row.ensures.nearest c.behind-next.ensures

pub loop-next-preserved : goal.loop-next-preserved
loop-next-preserved g c =
    let t : Tree = image c.args.self.now in
    let ordered = subst (λ (k : Cloned). Between 0 (2 ^ 64) (image k)) c.self.view_is c.self.invariant.clone.ordered in
    let spent = subst (λ (o : Option ℕ). HasSpent t c.args.side c.args.from o c.args.steps.now c.loop-next.steps) c.in-Some.is c.loop-next.invariant.2 in
    let told = subst (λ (k : Cloned). Some (c.in_ok-row.row, c.in_ok-row.value) ≡ nearest_row c.args.side c.in-Some.key (image k)) c.loop-next.invariant.0 c.in_ok-row.ensures.row in
    let row = subst (λ (o : Option ℕ). Some (c.in_ok-row.row, o) ≡ nearest_row c.args.side c.in-Some.key t) c.in_default-value.is told in
    let read = subst (λ (k : Cloned). c.nearest.new.steps ≤ c.loop-next.steps + depth (image k)) c.loop-next.invariant.0 c.in_ok-row.ensures.steps in (
      c.in_ok-row.ensures.view ∙ c.loop-next.invariant.0,
      turn_passed c.args.self.now c.loop-next.self c.args.side c.args.from c.in-Some.key c.in_ok-row.row c.in_ok-row.value c.loop-next.next c.behind-next.result c.loop-next.invariant.0 c.in-Some.is c.loop-next.invariant.1 c.in_ok-row.ensures.nearest c.behind-next.ensures c.in_default-value.is,
      spent_on t ordered c.args.side c.args.from c.in-Some.key c.in_ok-row.row c.behind-next.result c.args.steps.now c.loop-next.steps c.nearest.new.steps spent row c.behind-next.ensures read,
    )

pub returns-clause-nearest : goal.returns-clause-nearest
returns-clause-nearest g c = subst (HasPassed (at (after c.args.self.now.base)) c.args.side c.args.from) c.in_default.is c.loop-next.invariant.1
