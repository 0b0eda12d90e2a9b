use Rattle.std.proofs.Common.{◌∙◌}
use Rattle.snap_prelude.specs.{after, Left}
use Rattle.snap_view.proofs.Neighbours.{clone_rises, nearest_answer, lower_answer, none_lower}
use Rattle.snap_view.proofs.table_view.TableView.lower_counted.Goals as goal

pub returns-in_err-before-clause-lower : goal.returns-in_err-before-clause-lower
returns-in_err-before-clause-lower g c = c.from_residual.ensures ∙ none_lower (after c.args.self.now.base) c.args.key c.in_err-before.ensures

pub returns-clause-lower : goal.returns-clause-lower
returns-clause-lower g c =
    let rise = clone_rises c.args.self.now c.nearest_pair.ensures.clone in
    nearest_answer (after c.args.self.now.base) rise Left c.in_ok-before.before c.nearest_pair.result c.nearest_pair.ensures.nearest ∙ lower_answer (after c.args.self.now.base) rise c.args.key c.in_ok-before.before c.in_ok-before.ensures
