use Rattle.std.proofs.Common.{◌∙◌, ap}
use Rattle.std.proofs.lemmas.List.{take_rest}
use Rattle.snap_model.specs.SortedMap.{first_pair}
use Rattle.snap_model.proofs.Cutting.{first_is, not_below}
use Rattle.snap_model.proofs.plain_map.PlainMap.ceiling.Goals as goal

-- the first of the pairs behind the cut
pub returns : goal.returns
returns c =
    let back = (rw (c.deref-2.ensures.value, c.self.view_is) at c.count_below.ensures.back) ∙ not_below c.args.key c.args.self.now in
    c.copied.ensures ∙ c.first.ensures.value ∙ first_is _ ∙ ap first_pair (take_rest c.deref.result.now c.count_below.result ∙ rw (c.deref.ensures.value, c.self.view_is) back)
