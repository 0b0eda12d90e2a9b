use Rattle.snap_bench.proofs.Opened.{opened_rest}
use Rattle.snap_bench.proofs.workers.open_table.Goals as goal

pub returns : goal.returns
returns c = opened_rest c.in_ok-open.field-0.0 c.in_ok-open.field-0.1.items _ _ c.in_ok-open.ensures
