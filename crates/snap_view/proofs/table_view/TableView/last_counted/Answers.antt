use Rattle.std.proofs.Common.{◌∙◌}
use Rattle.snap_prelude.specs.{after, Left}
use Rattle.snap_view.proofs.Neighbours.{clone_rises, nearest_answer, last_answer}
use Rattle.snap_view.proofs.table_view.TableView.last_counted.Goals as goal

pub returns-clause-last : goal.returns-clause-last
returns-clause-last g c =
    let rise = clone_rises c.args.self.now c.nearest_pair.ensures.clone in
    nearest_answer (after c.args.self.now.base) rise Left 18446744073709551615 c.nearest_pair.result c.nearest_pair.ensures.nearest ∙ last_answer (after c.args.self.now.base) rise
