use Rattle.std.proofs.Common.{ℕ, ◌<◌, ◌≤◌, ◌*◌, ◌^◌, length, arith, ap, sym, subst}
use Rattle.snap_prelude.specs.{after, Cloned, image, IsSettledTree, least}
use Rattle.snap_view.proofs.Sizes.{depth_low, pairs_below, is_shallow}
use Rattle.snap_view.proofs.table_view.TableView.depth.Goals as goal

pub returns-clause-low : goal.returns-clause-low
returns-clause-low c = omega (arith, c.any_depth.ensures.depth, depth_low c.self.inside.rows.now c.self.inside.seat c.args.self.now c.self.view_is c.self.invariant)

pub returns-clause-pairs : goal.returns-clause-pairs
returns-clause-pairs c = subst (λ (n : ℕ). length (after c.args.self.now.base) < 2 ^ n) (sym c.any_depth.ensures.depth) (pairs_below c.self.inside.rows.now c.self.inside.seat c.args.self.now c.self.view_is c.self.invariant)

pub returns-clause-shallow : goal.returns-clause-shallow
returns-clause-shallow c =
    let same = ap (λ (k : Cloned). k.next) c.self.view_is in
    subst (λ (n : ℕ). IsSettledTree (image c.args.self.now) → least n ≤ 2 * length (after c.args.self.now.base)) (sym c.any_depth.ensures.depth) (is_shallow c.self.inside.rows.now c.self.inside.seat c.args.self.now c.self.view_is c.self.invariant (omega (arith, same, c.next-last.ensures, c.next-last.type_inv)))
