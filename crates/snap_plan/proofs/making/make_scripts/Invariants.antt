use Rattle.std.proofs.Common.{◌≡◌}
use Rattle.std.specs.Prelude.{All}
use Rattle.snap_made.specs.Generator.{made_scripts}
use Rattle.snap_plan.specs.Runnable.{IsScript}
use Rattle.snap_plan.proofs.making.make_scripts.Given as goal

abbrev pub invariant-loop-worker : goal.invariant-loop-worker
invariant-loop-worker l = record {
  made : l.scripts ≡ made_scripts l.commands l.seed l.workers l.worker;
  fit : All IsScript l.scripts;
}
