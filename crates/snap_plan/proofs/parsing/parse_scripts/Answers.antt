use Rattle.std.proofs.Common.{◌+◌, ◌∙◌, ap, length, length-append, sym, subst}
use Rattle.std.specs.Prelude.{All}
use Rattle.std.proofs.lemmas.List.Elements.{All-push}
use Rattle.snap_plan.specs.Inputs.{as_script, meanings}
use Rattle.snap_plan.specs.Runnable.{IsScript}
use Rattle.snap_plan.proofs.Inputs.{meaning_more, meaning_stops, meanings_same}
use Rattle.snap_plan.proofs.Stopping.{if_err, stop_by_part}
use Rattle.snap_plan.proofs.parsing.parse_scripts.Goals as goal

pub returns-in_err-script-clause-stops : goal.returns-in_err-script-clause-stops
returns-in_err-script-clause-stops c =
    let stop = c.in_err-script.field-0.0 in
    if_err _ _ stop c.from_residual.ensures.1
    (stop_by_part (as_script c.input-item.result) (meanings as_script c.args.inputs.now)
    (meaning_stops as_script c.args.inputs.now c.loop-input.input-index c.input-item.result c.loop-input.scripts c.loop-input.invariant.parsed c.loop-input-test.true c.input-item.is) stop c.in_err-script.ensures.stops)

pub loop-input-preserved : goal.loop-input-preserved
loop-input-preserved c =
    let script = c.in_ok-script.script in
    let was = c.loop-input.invariant in
    let added = c.in_ok-add.ensures.ok in
    record {
      parsed = meaning_more as_script c.args.inputs.now c.loop-input.input-index c.input-item.result c.loop-input.scripts script was.parsed c.loop-input-test.true c.input-item.is c.in_ok-script.ensures.script ∙ meanings_same added;
      each = ap length added ∙ length-append c.loop-input.scripts _ ∙ ap (λ n. n + 1) was.each;
      fit = subst (All IsScript) (sym added) (All-push IsScript c.loop-input.scripts script was.fit c.in_ok-script.ensures.fits);
    }
