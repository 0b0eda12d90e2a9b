use Rattle.std.proofs.Common.{arith}
use Rattle.snap_prelude.specs.{image}
use Rattle.snap_view.proofs.{Seeking.nearest_told, Levels.levels_within}
use Rattle.snap_view.proofs.table_view.TableView.nearest.Goals as goal

pub returns-clause-nearest : goal.returns-clause-nearest
returns-clause-nearest g c = nearest_told c.args.self.now c.args.side c.args.from c.way_down.result.row c.way_down.ensures.clone c.way_down.ensures.row

pub returns-clause-steps : goal.returns-clause-steps
returns-clause-steps g c = omega (arith, c.way_down.ensures.steps, levels_within c.args.side c.args.from (image c.args.self.now))
