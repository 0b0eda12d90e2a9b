use Rattle.std.proofs.Common.{ℕ, arith, sym, subst}
use Rattle.snap_prelude.specs.{Cloned, image}
use Rattle.snap_view.specs.{Nearest.on, Tops.HasTree}
use Rattle.snap_view.proofs.Within.{low_row}
use Rattle.snap_view.proofs.table_view.TableView.fetch.Goals as goal

pub fetch_row-requires-clause-row : goal.fetch_row-requires-clause-row
fetch_row-requires-clause-row c =
    let seat : Cloned = c.self.inside.seat in
    let far = subst (λ (k : Cloned). HasTree (image k) (on c.args.side c.args.copy.now.left c.args.copy.now.right)) (sym c.self.view_is) c.requires in
    let fits = low_row seat.rows (image seat) c.child.result c.self.invariant.placed (subst (HasTree (image seat)) (sym c.child.ensures) far) in
    omega (arith, fits, c.self.invariant.at.1)
