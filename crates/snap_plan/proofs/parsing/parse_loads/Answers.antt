use Rattle.std.proofs.Common.{◌≡◌, ◌∙◌, ◌++◌, ◌∷◌, [], List, ℕ, ap, map, sym, subst}
use Rattle.std.specs.Prelude.{◌≤◌, All}
use Rattle.std.proofs.lemmas.List.Elements.{All-push}
use Rattle.snap_plan.specs.Inputs.{Input, as_load, meanings}
use Rattle.snap_plan.specs.Runnable.{AllInRange}
use Rattle.snap_text.specs.Numbers.{FitsValue}
use Rattle.snap_plan.proofs.Inputs.{loads_more, meaning_more, meaning_stops, meanings_same, name_at, new_file}
use Rattle.snap_plan.proofs.Stopping.{if_err, stop_by_part}
use Rattle.snap_plan.proofs.parsing.parse_loads.Goals as goal

pub returns-in_err-pairs-clause-stops : goal.returns-in_err-pairs-clause-stops
returns-in_err-pairs-clause-stops c =
    let stop = c.in_err-pairs.field-0.0 in
    if_err _ _ stop c.from_residual.ensures.1
    (stop_by_part (as_load c.input-item.result) (meanings as_load c.args.inputs.now)
    (meaning_stops as_load c.args.inputs.now c.loop-input.input-index c.input-item.result c.loop-input.loads c.loop-input.invariant.parsed c.loop-input-test.true c.input-item.is) stop c.in_err-pairs.ensures.stops)

pub add-requires-clause-new_name : goal.add-requires-clause-new_name
add-requires-clause-new_name c =
    let inputs = c.args.inputs.now in
    let i = c.loop-input.input-index in
    let at = name_at inputs i c.input-item.result c.loop-input-test.true c.input-item.is in
    let file : c.in_ok-file.file ≡ c.input-item.result.0 = c.in_ok-file.ensures ∙ c.text.ensures ∙ ap (λ (x : Input). x.0) c.input.view_is in
    new_file c.loop-input.loads (map (λ input. input.0) inputs) i c.in_ok-file.file c.loop-input.invariant.named c.requires at.0 (file ∙ at.1 c.in_ok-file.file)

pub loop-input-preserved : goal.loop-input-preserved
loop-input-preserved c =
    let inputs = c.args.inputs.now in
    let i = c.loop-input.input-index in
    let was = c.loop-input.invariant in
    let file : c.in_ok-file.file ≡ c.input-item.result.0 = c.in_ok-file.ensures ∙ c.text.ensures ∙ ap (λ (x : Input). x.0) c.input.view_is in
    let added = c.in_ok-add.ensures.ok ∙ ap (λ (n : List ℕ). c.loop-input.loads ++ (n, c.in_ok-pairs.pairs) ∷ []) file in
    record {
      parsed = meaning_more as_load inputs i c.input-item.result c.loop-input.loads (c.input-item.result.0, c.in_ok-pairs.pairs) was.parsed c.loop-input-test.true c.input-item.is c.in_ok-pairs.ensures.pairs ∙ meanings_same added;
      named = loads_more c.loop-input.loads c.add.new.self inputs i c.input-item.result c.in_ok-pairs.pairs c.loop-input-test.true c.input-item.is was.named added;
      in_range = subst AllInRange (sym added) (All-push (λ file. All (λ pair. FitsValue pair.1) file.1) c.loop-input.loads (c.input-item.result.0, c.in_ok-pairs.pairs) was.in_range c.in_ok-pairs.ensures.in_range);
    }
