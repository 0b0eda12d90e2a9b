use Rattle.std.proofs.Common.{ℕ, ap, arith, length}
use Rattle.snap_prelude.specs.{after, Cloned, count}
use Rattle.snap_view.proofs.{Sizes.count_low, Counts.counted_on}
use Rattle.snap_view.proofs.table_view.TableView.count.Goals as goal

pub loop-preserved : goal.loop-preserved
loop-preserved c =
    let total : ℕ = count (after c.args.self.now.base) c.args.low c.args.high in
    (tt, tt, c.range-items.ensures.view, (counted_on total c.loop.found c.loop.iterator' c.next.new.self c.in-Some.field-0 c.loop.invariant.3 c.in-Some.ensures.steps))

pub overflow_add-found : goal.overflow_add-found
overflow_add-found c =
    let total : ℕ = count (after c.args.self.now.base) c.args.low c.args.high in let i = c.loop.invariant.3 in
    omega (arith, i.all, i.counted, ap length c.in-Some.ensures.steps, count_low c.self.inside.rows.now c.self.inside.seat c.args.self.now c.self.view_is c.self.invariant c.args.low c.args.high, ap (λ (k : Cloned). k.next) c.self.view_is, c.next-last.ensures, c.next-last.type_inv)
