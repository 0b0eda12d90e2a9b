use Rattle.std.proofs.Common.{◌∙◌, ◌^◌, subst}
use Rattle.snap_prelude.specs.{after, Cloned, Right}
use Rattle.snap_view.proofs.Neighbours.{clone_rises, nearest_answer, higher_answer, none_higher}
use Rattle.snap_view.proofs.Ranges.{Rise}
use Rattle.snap_view.proofs.table_view.TableView.higher_counted.Goals as goal

pub returns-in_err-next-clause-higher : goal.returns-in_err-next-clause-higher
returns-in_err-next-clause-higher g c =
    let rise = subst (λ (k : Cloned). Rise 0 (2 ^ 64) (after k.base)) c.self.view_is (clone_rises c.self.inside.seat c.self.invariant.clone) in
    c.from_residual.ensures ∙ none_higher (after c.args.self.now.base) rise c.args.key c.in_err-next.ensures

pub returns-clause-higher : goal.returns-clause-higher
returns-clause-higher g c =
    let rise = clone_rises c.args.self.now c.nearest_pair.ensures.clone in
    nearest_answer (after c.args.self.now.base) rise Right c.in_ok-next.next c.nearest_pair.result c.nearest_pair.ensures.nearest ∙ higher_answer (after c.args.self.now.base) rise c.args.key c.in_ok-next.next c.in_ok-next.ensures
