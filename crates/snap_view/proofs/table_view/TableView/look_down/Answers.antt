use Rattle.std.proofs.Common.{◌∙◌, ◌<◌, ◌^◌, Option, sym, subst}
use Rattle.snap_prelude.specs.{Between, Cloned, image, IsSubtree, RowCopy, Tree}
use Rattle.snap_view.specs.{Nearest.on, Tops.HasTree}
use Rattle.snap_view.proofs.{Looking.meets_end, Looking.meets_from, Looking.meets_on, Looking.MeetsAt, Seeking.has_far}
use Rattle.snap_view.proofs.{Seeking.has_next, Seeking.next_fewer, Seeking.next_row, Seeking.TopsAt, Within.levels_below}
use Rattle.snap_view.proofs.table_view.TableView.look_down.Goals as goal

pub loop-here-init : goal.loop-here-init
loop-here-init g c = (c.row_at-here.ensures.view, meets_from (image c.args.self.now) c.args.row c.args.side c.args.from c.row_at-here.result c.args.ahead.now c.row_at-here.ensures.top)

pub fetch-requires : goal.fetch-requires
fetch-requires g c =
    let t : Tree = image c.args.self.now in let r = c.requires in
    let m = subst (λ (h : Option RowCopy). MeetsAt t c.args.row c.args.side c.args.from h c.args.ahead.now c.loop-here.ahead) c.in-Some.is c.loop-here.invariant.1 in
    let s = m r.tree r.within r.at in let copy : RowCopy = c.in-Some.copy in
    subst (λ (k : Cloned). HasTree (image k) (on c.args.side copy.left copy.right)) (sym c.loop-here.invariant.0) (has_far t s.tree s.within copy s.top c.args.side c.args.from)

pub row_at-here-requires-in-Some : goal.row_at-here-requires-in-Some
row_at-here-requires-in-Some g c =
    let t : Tree = image c.args.self.now in let r = c.requires in
    let m = subst (λ (h : Option RowCopy). MeetsAt t c.args.row c.args.side c.args.from h c.args.ahead.now c.loop-here.ahead) c.in-Some.is c.loop-here.invariant.1 in
    let s = m r.tree r.within r.at in
    let next = has_next t s.tree s.within c.in-Some.copy s.top c.args.side c.args.from in
    subst (λ (k : Cloned). HasTree (image k) c.below.result) (sym (c.fetch.ensures.view ∙ c.loop-here.invariant.0)) (subst (HasTree t) (sym c.below.ensures) next)

pub loop-here-smaller : goal.loop-here-smaller
loop-here-smaller g c =
    let t : Tree = image c.args.self.now in let r = c.requires in
    let m = subst (λ (h : Option RowCopy). MeetsAt t c.args.row c.args.side c.args.from h c.args.ahead.now c.loop-here.ahead) c.in-Some.is c.loop-here.invariant.1 in
    let s = m r.tree r.within r.at in
    let ordered = subst (λ (k : Cloned). Between 0 (2 ^ 64) (image k)) c.self.view_is c.self.invariant.clone.ordered in
    let tops : TopsAt t (next_row c.args.side c.args.from c.in-Some.copy) c.row_at-here-in-Some.result = λ u w z. c.row_at-here-in-Some.ensures.top u (subst (λ (k : Cloned). IsSubtree u (image k)) (sym (c.fetch.ensures.view ∙ c.loop-here.invariant.0)) w) (z ∙ sym c.below.ensures) in
    subst (λ (h : Option RowCopy). levels_below t c.row_at-here-in-Some.result < levels_below t h) (sym c.in-Some.is) (next_fewer t s.tree s.within c.in-Some.copy s.top c.args.side c.args.from 0 (2 ^ 64) c.row_at-here-in-Some.result ordered tops)

pub loop-here-preserved : goal.loop-here-preserved
loop-here-preserved g c =
    let t : Tree = image c.args.self.now in
    let m = subst (λ (h : Option RowCopy). MeetsAt t c.args.row c.args.side c.args.from h c.args.ahead.now c.loop-here.ahead) c.in-Some.is c.loop-here.invariant.1 in
    let tops : TopsAt t (next_row c.args.side c.args.from c.in-Some.copy) c.row_at-here-in-Some.result = λ u w z. c.row_at-here-in-Some.ensures.top u (subst (λ (k : Cloned). IsSubtree u (image k)) (sym (c.fetch.ensures.view ∙ c.loop-here.invariant.0)) w) (z ∙ sym c.below.ensures) in
    (c.row_at-here-in-Some.ensures.view ∙ c.fetch.ensures.view ∙ c.loop-here.invariant.0, meets_on t c.args.row c.args.side c.args.from c.in-Some.copy c.row_at-here-in-Some.result c.args.ahead.now c.loop-here.ahead c.meet.new.self m c.meet.ensures tops)

pub returns-clause-ahead : goal.returns-clause-ahead
returns-clause-ahead g c =
    let t : Tree = image c.args.self.now in
    meets_end t c.args.row c.args.side c.args.from c.args.ahead.now c.loop-here.ahead (subst (λ (h : Option RowCopy). MeetsAt t c.args.row c.args.side c.args.from h c.args.ahead.now c.loop-here.ahead) c.in_default.is c.loop-here.invariant.1)
