use Rattle.std.proofs.Common.{sym, subst}
use Rattle.std.specs.Prelude.{All}
use Rattle.std.proofs.lemmas.List.Elements.{All-nil, All-push}
use Rattle.snap_plan.specs.Runnable.{IsScript}
use Rattle.snap_plan.proofs.Made.{made_first, made_fits, made_more}
use Rattle.snap_plan.proofs.making.make_scripts.Goals as goal

pub loop-worker-init : goal.loop-worker-init
loop-worker-init c = record {
  made = made_first c.args.commands c.args.seed c.args.workers c.new-scripts.result c.new-scripts.ensures;
  fit = subst (All IsScript) (sym c.new-scripts.ensures) (All-nil IsScript);
}

pub loop-worker-preserved : goal.loop-worker-preserved
loop-worker-preserved c =
    let script = c.in_ok-make_script.field-0 in
    let told = c.in_ok-make_script.ensures in
    record {
      made = made_more c.args.commands c.args.seed c.args.workers c.loop-worker.worker c.loop-worker.scripts c.add.new.self script c.loop-worker.invariant.made told.script c.in_ok-add.ensures.ok;
      fit = subst (All IsScript) (sym c.in_ok-add.ensures.ok)
          (All-push IsScript c.loop-worker.scripts script c.loop-worker.invariant.fit (made_fits c.args.commands c.args.seed c.args.workers c.loop-worker.worker script told.script told.uses told.in_range told.few));
    }
