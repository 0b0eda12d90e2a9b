use Rattle.std.proofs.Common.{◌∙◌, ◌<◌, ◌^◌, Option, None, ℕ, ◌≡◌, refl, ap, sym, subst}
use Rattle.snap_prelude.specs.{Between, Cloned, depth, image, Laid, Right, Tree}
use Rattle.snap_view.specs.{Readable.IsReadable, Nearest.levels, Nearest.nearest_row}
use Rattle.snap_view.proofs.Levels.{HasSounded, sounded_none, sounded_on, sounded_all, sounds_fewer}
use Rattle.snap_view.proofs.Passing.{keys_ahead}
use Rattle.snap_view.proofs.table_view.TableView.sounded_depth.Goals as goal

pub loop-next-init : goal.loop-next-init
loop-next-init c = (refl, sounded_none (image c.args.self.now))

pub loop-next-smaller : goal.loop-next-smaller
loop-next-smaller c =
    let t : Tree = image c.args.self.now in
    let h = subst (λ (k : Cloned). Between 0 (2 ^ 64) (image k)) c.self.view_is c.self.invariant.clone.ordered in
    let s = subst (λ (o : Option ℕ). HasSounded t o c.loop-next.deepest) c.in-Some.is c.loop-next.invariant.1 in
    let is = c.way_from-way.ensures.row ∙ ap (λ (k : Cloned). nearest_row Right c.in-Some.from (image k)) c.loop-next.invariant.0 in
    subst (λ (o : Option ℕ). keys_ahead Right c.past-next.result < keys_ahead Right o) (sym c.in-Some.is) (sounds_fewer t h c.in-Some.from c.way_from-way.result.row c.past-next.result s.fits is c.past-next.ensures)

pub loop-next-preserved : goal.loop-next-preserved
loop-next-preserved c =
    let t : Tree = image c.args.self.now in
    let h = subst (λ (k : Cloned). Between 0 (2 ^ 64) (image k)) c.self.view_is c.self.invariant.clone.ordered in
    let s = subst (λ (o : Option ℕ). HasSounded t o c.loop-next.deepest) c.in-Some.is c.loop-next.invariant.1 in
    let is = c.way_from-way.ensures.row ∙ ap (λ (k : Cloned). nearest_row Right c.in-Some.from (image k)) c.loop-next.invariant.0 in
    let counts = c.way_from-way.ensures.levels ∙ ap (λ (k : Cloned). levels Right c.in-Some.from (image k)) c.loop-next.invariant.0 in (
      c.way_from-way.ensures.view ∙ c.loop-next.invariant.0,
      subst (HasSounded t c.past-next.result) (sym c.max-deepest.ensures) (sounded_on t h c.in-Some.from c.loop-next.deepest c.way_from-way.result.levels c.way_from-way.result.row c.past-next.result s is counts c.past-next.ensures),
    )

-- the longest way was gone
deepest_is : (rows : Laid) (seat now : Cloned) → seat ≡ now → IsReadable rows seat → (next : Option ℕ) (best : ℕ) → next ≡ None → HasSounded (image now) next best → best ≡ depth (image now)
deepest_is rows seat now is readable next best ends s = sounded_all (image now) (subst (λ (k : Cloned). Between 0 (2 ^ 64) (image k)) is readable.clone.ordered) best (subst (λ (o : Option ℕ). HasSounded (image now) o best) ends s)

pub returns-clause-depth : goal.returns-clause-depth
returns-clause-depth c = deepest_is c.self.inside.rows.now c.self.inside.seat c.args.self.now c.self.view_is c.self.invariant c.loop-next.next c.loop-next.deepest c.in_default.is c.loop-next.invariant.1
