use Rattle.std.proofs.Common.{◌+◌, ◌∙◌, ℕ, Some, None, sym, subst, arith, ap}
use Rattle.snap_prelude.specs.{Cloned, image}
use Rattle.snap_view.specs.Tops.{HasTree}
use Rattle.snap_view.proofs.Balances.{has_left, has_right}
use Rattle.snap_view.proofs.Depths.{DepthAt, left_deep, right_deep, low_depth, some_depth}
use Rattle.snap_view.proofs.table_view.TableView.+depth_at.Goals as goal

pub depth_at-requires : goal.depth_at-requires
depth_at-requires g t c =
    let r = c.requires in let at : HasTree (image c.args.self.now) c.in-Some.copy.left = has_left (image c.args.self.now) r.tree c.in-Some.copy r.within (c.in-Some.ensures.top r.tree r.within r.at) in
    let here = subst (λ (k : Cloned). HasTree (image k) c.in-Some.copy.left) (sym c.row_at.ensures.view) at in
    λ κs live. (omega (arith, c.in_ok-below-in-Some.ensures, c.decreases), (live, here))

pub returns-in_err-left-in-Some-clause-depth : goal.returns-in_err-left-in-Some-clause-depth
returns-in_err-left-in-Some-clause-depth g t c =
    let h = subst (λ (k : Cloned). DepthAt (image k) c.in-Some.copy.left c.in_ok-below-in-Some.below None) c.row_at.ensures.view c.in_err-left-in-Some.ensures.depth in
    subst (DepthAt (image c.args.self.now) c.args.row c.args.levels) (sym c.from_residual-in_err-left-in-Some.ensures) (left_deep (image c.args.self.now) c.args.row c.args.levels c.in-Some.copy c.in-Some.ensures.top c.in_ok-below-in-Some.below (omega (arith, c.in_ok-below-in-Some.ensures)) h)

pub depth_at-requires-in-Some : goal.depth_at-requires-in-Some
depth_at-requires-in-Some g t c =
    let r = c.requires in let at : HasTree (image c.args.self.now) c.in-Some.copy.right = has_right (image c.args.self.now) r.tree c.in-Some.copy r.within (c.in-Some.ensures.top r.tree r.within r.at) in
    let here = subst (λ (k : Cloned). HasTree (image k) c.in-Some.copy.right) (sym (c.depth_at.ensures.view ∙ c.row_at.ensures.view)) at in
    λ κs live. (omega (arith, c.in_ok-below-in-Some.ensures, c.decreases), (live, here))

pub returns-in_err-right-in-Some-clause-depth : goal.returns-in_err-right-in-Some-clause-depth
returns-in_err-right-in-Some-clause-depth g t c =
    let h = subst (λ (k : Cloned). DepthAt (image k) c.in-Some.copy.right c.in_ok-below-in-Some.below None) (c.depth_at.ensures.view ∙ c.row_at.ensures.view) c.in_err-right-in-Some.ensures.depth in
    subst (DepthAt (image c.args.self.now) c.args.row c.args.levels) (sym c.from_residual-in_err-right-in-Some.ensures) (right_deep (image c.args.self.now) c.args.row c.args.levels c.in-Some.copy c.in-Some.ensures.top c.in_ok-below-in-Some.below (omega (arith, c.in_ok-below-in-Some.ensures)) h)

pub overflow_add-depth : goal.overflow_add-depth
overflow_add-depth g t c =
    let below : ℕ = c.in_ok-below-in-Some.below in
    let a = subst (λ (k : Cloned). DepthAt (image k) c.in-Some.copy.left below (Some c.in_ok-left-in-Some.left)) c.row_at.ensures.view c.in_ok-left-in-Some.ensures.depth in
    let b = subst (λ (k : Cloned). DepthAt (image k) c.in-Some.copy.right below (Some c.in_ok-right-in-Some.right)) (c.depth_at.ensures.view ∙ c.row_at.ensures.view) c.in_ok-right-in-Some.ensures.depth in
    let low = low_depth (image c.args.self.now) c.args.row c.args.levels c.in-Some.copy c.in-Some.ensures.top below (omega (arith, c.in_ok-below-in-Some.ensures)) c.in_ok-left-in-Some.left c.in_ok-right-in-Some.right a b c.requires in
    omega (arith, low, c.max-larger.ensures, c.ranges.levels.fits)

pub returns-in_ok-right-in-Some-clause-depth : goal.returns-in_ok-right-in-Some-clause-depth
returns-in_ok-right-in-Some-clause-depth g t c =
    let below : ℕ = c.in_ok-below-in-Some.below in
    let a = subst (λ (k : Cloned). DepthAt (image k) c.in-Some.copy.left below (Some c.in_ok-left-in-Some.left)) c.row_at.ensures.view c.in_ok-left-in-Some.ensures.depth in
    let b = subst (λ (k : Cloned). DepthAt (image k) c.in-Some.copy.right below (Some c.in_ok-right-in-Some.right)) (c.depth_at.ensures.view ∙ c.row_at.ensures.view) c.in_ok-right-in-Some.ensures.depth in
    some_depth (image c.args.self.now) c.args.row c.args.levels c.in-Some.copy c.in-Some.ensures.top below (omega (arith, c.in_ok-below-in-Some.ensures)) c.in_ok-left-in-Some.left c.in_ok-right-in-Some.right a b (c.max-larger.result + 1) (ap (λ (x : ℕ). x + 1) c.max-larger.ensures)
