use Rattle.std.proofs.Common.{◌∙◌, ◌<◌, ◌^◌, Option, sym, subst}
use Rattle.snap_prelude.specs.{Cloned, image, IsSubtree, Right, RowCopy, Tree}
use Rattle.snap_view.specs.Tops.{HasTree}
use Rattle.snap_view.proofs.Seeking.{Seeks, next_row, TopsAt, seeks_from, seeks_on, seeks_found, seeks_none, has_next, next_fewer, value_told}
use Rattle.snap_view.proofs.Within.{levels_below}
use Rattle.snap_view.proofs.table_view.TableView.get_counted.Goals as goal

pub loop-here-init : goal.loop-here-init
loop-here-init g c = (c.top-here.ensures.view, seeks_from (image c.args.self.now) c.args.key c.top-here.result c.args.steps.now c.top-here.new.steps c.top-here.ensures.top c.top-here.ensures.steps)

pub returns-then-copy-key-clause-value : goal.returns-then-copy-key-clause-value
returns-then-copy-key-clause-value g c =
    let t : Tree = image c.args.self.now in
    let s = subst (λ (h : Option RowCopy). Seeks t c.args.key h c.args.steps.now c.loop-here.steps) c.in-Some.is c.loop-here.invariant.1 in
    (seeks_found t c.args.key c.in-Some.copy c.args.steps.now c.loop-here.steps s c.if-copy-key.true).0 ∙ value_told c.args.self.now c.args.key c.top-here.ensures.clone

pub returns-then-copy-key-clause-steps : goal.returns-then-copy-key-clause-steps
returns-then-copy-key-clause-steps g c =
    let t : Tree = image c.args.self.now in
    let s = subst (λ (h : Option RowCopy). Seeks t c.args.key h c.args.steps.now c.loop-here.steps) c.in-Some.is c.loop-here.invariant.1 in
    (seeks_found t c.args.key c.in-Some.copy c.args.steps.now c.loop-here.steps s c.if-copy-key.true).1

pub row_at-here-requires : goal.row_at-here-requires
row_at-here-requires g c =
    let t : Tree = image c.args.self.now in
    let s = subst (λ (h : Option RowCopy). Seeks t c.args.key h c.args.steps.now c.loop-here.steps) c.in-Some.is c.loop-here.invariant.1 in
    let next = has_next t s.tree s.within c.in-Some.copy s.top Right c.args.key in
    subst (λ (k : Cloned). HasTree (image k) c.below.result) (sym c.loop-here.invariant.0) (subst (HasTree t) (sym c.below.ensures) next)

pub loop-here-smaller : goal.loop-here-smaller
loop-here-smaller g c =
    let t : Tree = image c.args.self.now in
    let s = subst (λ (h : Option RowCopy). Seeks t c.args.key h c.args.steps.now c.loop-here.steps) c.in-Some.is c.loop-here.invariant.1 in
    let tops : TopsAt t (next_row Right c.args.key c.in-Some.copy) c.row_at-here.result = λ u w z. c.row_at-here.ensures.top u (subst (λ (k : Cloned). IsSubtree u (image k)) (sym c.loop-here.invariant.0) w) (z ∙ sym c.below.ensures) in
    subst (λ (h : Option RowCopy). levels_below t c.row_at-here.result < levels_below t h) (sym c.in-Some.is) (next_fewer t s.tree s.within c.in-Some.copy s.top Right c.args.key 0 (2 ^ 64) c.row_at-here.result c.top-here.ensures.clone.ordered tops)

pub loop-here-preserved : goal.loop-here-preserved
loop-here-preserved g c =
    let t : Tree = image c.args.self.now in
    let s = subst (λ (h : Option RowCopy). Seeks t c.args.key h c.args.steps.now c.loop-here.steps) c.in-Some.is c.loop-here.invariant.1 in
    let tops : TopsAt t (next_row Right c.args.key c.in-Some.copy) c.row_at-here.result = λ u w z. c.row_at-here.ensures.top u (subst (λ (k : Cloned). IsSubtree u (image k)) (sym c.loop-here.invariant.0) w) (z ∙ sym c.below.ensures) in
    (c.row_at-here.ensures.view ∙ c.loop-here.invariant.0, seeks_on t c.args.key c.in-Some.copy c.args.steps.now c.loop-here.steps c.row_at-here.result c.row_at-here.new.steps s c.if-copy-key.false tops c.row_at-here.ensures.steps)

pub returns-clause-value : goal.returns-clause-value
returns-clause-value g c =
    let t : Tree = image c.args.self.now in
    let s = subst (λ (h : Option RowCopy). Seeks t c.args.key h c.args.steps.now c.loop-here.steps) c.in_default.is c.loop-here.invariant.1 in
    (seeks_none t c.args.key c.args.steps.now c.loop-here.steps s).0 ∙ value_told c.args.self.now c.args.key c.top-here.ensures.clone

pub returns-clause-steps : goal.returns-clause-steps
returns-clause-steps g c =
    let t : Tree = image c.args.self.now in
    let s = subst (λ (h : Option RowCopy). Seeks t c.args.key h c.args.steps.now c.loop-here.steps) c.in_default.is c.loop-here.invariant.1 in
    (seeks_none t c.args.key c.args.steps.now c.loop-here.steps s).1
