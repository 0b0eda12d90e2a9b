use Rattle.snap_search.proofs.Keeping.{way_none}
use Rattle.row_tests.proofs.stopped.end_write.Goals as goal

pub end_by-requires-clause-way : goal.end_by-requires-clause-way
end_by-requires-clause-way g c = way_none c.args.rows.now.rows c.args.pass.now.view c.none-way.result c.none-way.ensures.steps
