use Rattle.std.proofs.Common.{◌∙◌}
use Rattle.snap_prelude.specs.{after, Right}
use Rattle.snap_view.proofs.Neighbours.{clone_rises, nearest_answer, first_answer}
use Rattle.snap_view.proofs.table_view.TableView.first_counted.Goals as goal

pub returns-clause-first : goal.returns-clause-first
returns-clause-first g c =
    let rise = clone_rises c.args.self.now c.nearest_pair.ensures.clone in
    nearest_answer (after c.args.self.now.base) rise Right 0 c.nearest_pair.result c.nearest_pair.ensures.nearest ∙ first_answer (after c.args.self.now.base) rise
