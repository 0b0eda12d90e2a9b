use Rattle.std.proofs.Common.{◌∙◌}
use Rattle.snap_prelude.specs.{after, Left}
use Rattle.snap_view.proofs.Neighbours.{clone_rises, nearest_answer, last_answer}
use Rattle.snap_view.proofs.table_view.TableView.last.Goals as goal

pub returns-clause-last : goal.returns-clause-last
returns-clause-last c =
    let rise = clone_rises c.args.self.now c.pair_near.ensures.clone in
    nearest_answer (after c.args.self.now.base) rise Left 18446744073709551615 c.pair_near.result c.pair_near.ensures.nearest ∙ last_answer (after c.args.self.now.base) rise
