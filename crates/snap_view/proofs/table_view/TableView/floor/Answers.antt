use Rattle.snap_prelude.specs.{after, Left}
use Rattle.snap_view.proofs.Neighbours.{clone_rises, nearest_answer}
use Rattle.snap_view.proofs.table_view.TableView.floor.Goals as goal

pub returns-clause-floor : goal.returns-clause-floor
returns-clause-floor c =
    let rise = clone_rises c.args.self.now c.pair_near.ensures.clone in
    nearest_answer (after c.args.self.now.base) rise Left c.args.key c.pair_near.result c.pair_near.ensures.nearest
