use Rattle.snap_prelude.specs.{after, Left}
use Rattle.snap_view.proofs.Neighbours.{clone_rises, nearest_answer}
use Rattle.snap_view.proofs.table_view.TableView.floor_counted.Goals as goal

pub returns-clause-floor : goal.returns-clause-floor
returns-clause-floor g c =
    let rise = clone_rises c.args.self.now c.nearest_pair.ensures.clone in
    nearest_answer (after c.args.self.now.base) rise Left c.args.key c.nearest_pair.result c.nearest_pair.ensures.nearest
