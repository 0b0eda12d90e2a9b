use Rattle.std.proofs.Common.{◌∙◌, ap}
use Rattle.std.proofs.lemmas.List.{take_rest}
use Rattle.snap_model.specs.SortedMap.{first_pair}
use Rattle.snap_model.proofs.Cutting.{first_is, not_up_to}
use Rattle.snap_model.proofs.plain_map.PlainMap.higher.Goals as goal

-- the first of the pairs behind the cut
pub returns : goal.returns
returns c =
    let back = (rw (c.deref-2.ensures.value, c.self.view_is) at c.count_up_to.ensures.back) ∙ not_up_to c.args.key c.args.self.now in
    c.copied.ensures ∙ c.first.ensures.value ∙ first_is _ ∙ ap first_pair (take_rest c.deref.result.now c.count_up_to.result ∙ rw (c.deref.ensures.value, c.self.view_is) back)
