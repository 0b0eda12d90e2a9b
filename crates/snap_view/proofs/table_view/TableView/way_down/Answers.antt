use Rattle.std.proofs.Common.{◌+◌, ap, arith, refl, ◌∙◌, ◌<◌, ◌^◌, Option, sym, subst}
use Rattle.snap_prelude.specs.{Cloned, image, IsSubtree, RowCopy, Tree}
use Rattle.snap_view.specs.{Tops.HasTree, declared.way.WayDown.WayDown}
use Rattle.snap_view.proofs.Seeking.{Descends, next_row, TopsAt, descends_from, descends_on, descends_end, descends_low, has_next, next_fewer}
use Rattle.snap_view.proofs.{Sizes.few, Within.levels_below}
use Rattle.snap_view.proofs.table_view.TableView.way_down.Goals as goal

pub loop-here-init : goal.loop-here-init
loop-here-init g c = (c.top-here.ensures.view, descends_from (image c.args.self.now) c.args.side c.args.from c.top-here.result c.args.steps.now c.top-here.new.steps c.top-here.ensures.top c.top-here.ensures.steps)

pub row_at-here-requires : goal.row_at-here-requires
row_at-here-requires g c =
    let t : Tree = image c.args.self.now in
    let s = subst (λ (h : Option RowCopy). Descends t c.args.side c.args.from h c.loop-here.way c.args.steps.now c.loop-here.steps) c.in-Some.is c.loop-here.invariant.1 in
    let next = has_next t s.tree s.within c.in-Some.copy s.top c.args.side c.args.from in
    subst (λ (k : Cloned). HasTree (image k) c.below.result) (sym c.loop-here.invariant.0) (subst (HasTree t) (sym c.below.ensures) next)

pub loop-here-smaller : goal.loop-here-smaller
loop-here-smaller g c =
    let t : Tree = image c.args.self.now in
    let s = subst (λ (h : Option RowCopy). Descends t c.args.side c.args.from h c.loop-here.way c.args.steps.now c.loop-here.steps) c.in-Some.is c.loop-here.invariant.1 in
    let tops : TopsAt t (next_row c.args.side c.args.from c.in-Some.copy) c.row_at-here.result = λ u w z. c.row_at-here.ensures.top u (subst (λ (k : Cloned). IsSubtree u (image k)) (sym c.loop-here.invariant.0) w) (z ∙ sym c.below.ensures) in
    subst (λ (h : Option RowCopy). levels_below t c.row_at-here.result < levels_below t h) (sym c.in-Some.is) (next_fewer t s.tree s.within c.in-Some.copy s.top c.args.side c.args.from 0 (2 ^ 64) c.row_at-here.result c.top-here.ensures.clone.ordered tops)

pub overflow_add-way : goal.overflow_add-way
overflow_add-way g c =
    let t : Tree = image c.args.self.now in
    let s = subst (λ (h : Option RowCopy). Descends t c.args.side c.args.from h c.loop-here.way c.args.steps.now c.loop-here.steps) c.in-Some.is c.loop-here.invariant.1 in
    let same = ap (λ (k : Cloned). k.next) c.self.view_is in
    omega (arith, descends_low t c.args.side c.args.from c.in-Some.copy c.loop-here.way c.args.steps.now c.loop-here.steps s, few c.self.inside.rows.now c.self.inside.seat c.args.self.now c.self.view_is c.self.invariant, same, c.next-last.ensures, c.next-last.type_inv)

pub loop-here-preserved : goal.loop-here-preserved
loop-here-preserved g c =
    let t : Tree = image c.args.self.now in
    let s = subst (λ (h : Option RowCopy). Descends t c.args.side c.args.from h c.loop-here.way c.args.steps.now c.loop-here.steps) c.in-Some.is c.loop-here.invariant.1 in
    let tops : TopsAt t (next_row c.args.side c.args.from c.in-Some.copy) c.row_at-here.result = λ u w z. c.row_at-here.ensures.top u (subst (λ (k : Cloned). IsSubtree u (image k)) (sym c.loop-here.invariant.0) w) (z ∙ sym c.below.ensures) in
    let way : WayDown = record { row = c.nearer.result; levels = c.loop-here.way.levels + 1 } in
    (c.row_at-here.ensures.view ∙ c.loop-here.invariant.0, descends_on t c.args.side c.args.from c.in-Some.copy c.loop-here.way way c.args.steps.now c.loop-here.steps c.row_at-here.result c.row_at-here.new.steps s c.nearer.ensures refl tops c.row_at-here.ensures.steps)

pub returns-clause-row : goal.returns-clause-row
returns-clause-row g c =
    let t : Tree = image c.args.self.now in
    let s = subst (λ (h : Option RowCopy). Descends t c.args.side c.args.from h c.loop-here.way c.args.steps.now c.loop-here.steps) c.in_default.is c.loop-here.invariant.1 in
    (descends_end t c.args.side c.args.from c.loop-here.way c.args.steps.now c.loop-here.steps s).row

pub returns-clause-levels : goal.returns-clause-levels
returns-clause-levels g c =
    let t : Tree = image c.args.self.now in
    let s = subst (λ (h : Option RowCopy). Descends t c.args.side c.args.from h c.loop-here.way c.args.steps.now c.loop-here.steps) c.in_default.is c.loop-here.invariant.1 in
    (descends_end t c.args.side c.args.from c.loop-here.way c.args.steps.now c.loop-here.steps s).counts

pub returns-clause-steps : goal.returns-clause-steps
returns-clause-steps g c =
    let t : Tree = image c.args.self.now in
    let s = subst (λ (h : Option RowCopy). Descends t c.args.side c.args.from h c.loop-here.way c.args.steps.now c.loop-here.steps) c.in_default.is c.loop-here.invariant.1 in
    (descends_end t c.args.side c.args.from c.loop-here.way c.args.steps.now c.loop-here.steps s).cost
