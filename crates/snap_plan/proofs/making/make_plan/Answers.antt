use Rattle.std.proofs.Common.{subst}
use Rattle.std.specs.Prelude.{All}
use Rattle.snap_plan.specs.Runnable.{IsScript}
use Rattle.snap_plan.proofs.Made.{made_is, made_runnable}
use Rattle.snap_plan.proofs.making.make_plan.Goals as goal

pub returns-clause-runnable : goal.returns-clause-runnable
returns-clause-runnable c =
    let is = made_is c.args.rows c.args.last c.args.commands c.args.seed c.args.workers c.in_ok-scripts.scripts c.in_ok-tables.tables c.new.result c.in_ok-scripts.ensures.scripts c.in_ok-tables.ensures c.new.ensures in
    made_runnable c.args.rows c.args.last c.args.commands c.args.seed c.args.workers _ is c.requires.some_workers c.requires.few_workers c.requires.some_rows c.requires.few_rows
    (subst (All IsScript) c.in_ok-scripts.ensures.scripts c.in_ok-scripts.ensures.fit)
