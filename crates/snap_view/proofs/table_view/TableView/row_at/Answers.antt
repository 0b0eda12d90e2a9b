use Rattle.std.proofs.Common.{rules, ◌≡◌, ◌≢◌, ◌∙◌, sym, subst, arith}
use Rattle.snap_prelude.specs.{ArePlaced, Cloned, CopiesRow, image}
use Rattle.snap_view.specs.Tops.{HasTree}
use Rattle.snap_view.proofs.Within.{empty_at, top_at, copied_top}
use Rattle.snap_view.proofs.table_view.TableView.row_at.Goals as goal

pub returns-then-is_none-clause-top : goal.returns-then-is_none-clause-top
returns-then-is_none-clause-top g c =
    let now : Cloned = c.args.self.now in let placed = subst (λ (k : Cloned). ArePlaced k.rows (image k)) c.self.view_is c.self.invariant.placed in
    let zero : c.args.row ≡ 0 = search rules in
    λ t within at. empty_at now.rows (image now) t placed within (at ∙ zero)

pub load_row-requires-clause-row : goal.load_row-requires-clause-row
load_row-requires-clause-row g c =
    let seat : Cloned = c.self.inside.seat in let ne : c.args.row ≢ 0 = search rules in
    let t = top_at seat.rows (image seat) c.args.row c.self.invariant.placed (subst (λ (k : Cloned). HasTree (image k) c.args.row) (sym c.self.view_is) c.requires) ne in
    omega (arith, t.1, c.self.invariant.at.1)

pub load_row-requires-clause-clone : goal.load_row-requires-clause-clone
load_row-requires-clause-clone g c =
    let seat : Cloned = c.self.inside.seat in let ne : c.args.row ≢ 0 = search rules in
    (top_at seat.rows (image seat) c.args.row c.self.invariant.placed (subst (λ (k : Cloned). HasTree (image k) c.args.row) (sym c.self.view_is) c.requires) ne).0

pub returns-clause-top : goal.returns-clause-top
returns-clause-top g c =
    let now : Cloned = c.args.self.now in let ne : c.args.row ≢ 0 = search rules in
    copied_top (image now) c.args.row c.load_row.result ne (subst (λ (k : Cloned). CopiesRow (image k) c.args.row c.load_row.result) c.self.view_is c.load_row.ensures.copy)
