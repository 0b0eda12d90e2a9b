use Rattle.std.proofs.Common.{◌∙◌, ap, false}
use Rattle.row_tests.proofs.stopped.end_by.Goals as goal
use Rattle.snap_prelude.specs.{Known}
use Rattle.snap_table.proofs.Gated.{owes_nothing}

pub repair-requires-clause-mending : goal.repair-requires-clause-mending
repair-requires-clause-mending g c = record { writing = (c.args.made, false, c.requires.writing.stage); whole = c.requires.writing.whole }

pub leave-requires-clause-writing : goal.leave-requires-clause-writing
leave-requires-clause-writing g c = ap (λ (k : Known). k.view.stage) c.repair.ensures.mends.is ∙ c.requires.writing.stage

pub leave-requires-clause-owes : goal.leave-requires-clause-owes
leave-requires-clause-owes g c = owes_nothing c.args.rows.now.rows c.args.pass.now c.repair.new.pass c.repair.result c.requires.writing.of.1 c.repair.ensures
