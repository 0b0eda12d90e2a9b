use Rattle.std.proofs.Common.{◌∙◌, ap}
use Rattle.std.specs.Prelude.{nat_le}
use Rattle.std.specs.List.{filter}
use Rattle.std.proofs.lemmas.List.{take_rest}
use Rattle.snap_model.proofs.Cutting.{filter_both, not_below}
use Rattle.snap_model.proofs.plain_map.PlainMap.range.Goals as goal

-- the pairs from the lower bound on, and of these the ones up to the upper bound
pub returns : goal.returns
returns c =
    let back = (rw (c.deref-2.ensures.value, c.self.view_is) at c.count_below.ensures.back) ∙ not_below c.args.lo c.args.self.now in
    let from = take_rest c.deref.result.now c.count_below.result ∙ rw (c.deref.ensures.value, c.self.view_is) back in
    c.count_up_to.ensures.front ∙ ap (filter (λ p. nat_le p.0 c.args.hi)) from ∙ filter_both (λ p. nat_le c.args.lo p.0) (λ p. nat_le p.0 c.args.hi) c.args.self.now
