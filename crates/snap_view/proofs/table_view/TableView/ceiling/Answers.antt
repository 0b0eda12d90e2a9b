use Rattle.snap_prelude.specs.{after, Right}
use Rattle.snap_view.proofs.Neighbours.{clone_rises, nearest_answer}
use Rattle.snap_view.proofs.table_view.TableView.ceiling.Goals as goal

pub returns-clause-ceiling : goal.returns-clause-ceiling
returns-clause-ceiling c =
    let rise = clone_rises c.args.self.now c.pair_near.ensures.clone in
    nearest_answer (after c.args.self.now.base) rise Right c.args.key c.pair_near.result c.pair_near.ensures.nearest
