use Rattle.std.proofs.Common.{◌≡◌, ◌∙◌, ap, take}
use Rattle.std.specs.Prelude.{nat_le}
use Rattle.std.specs.List.{filter}
use Rattle.snap_model.specs.SortedMap.{last_pair}
use Rattle.snap_model.proofs.Cutting.{last_is}
use Rattle.snap_model.proofs.plain_map.PlainMap.floor.Goals as goal

-- the last of the pairs before the cut
pub returns : goal.returns
returns c =
    let before = take c.count_up_to.result c.deref.result.now in
    let front = rw (c.deref-2.ensures.value, c.self.view_is) at c.count_up_to.ensures.front in
    let is : before ≡ filter (λ p. nat_le p.0 c.args.key) c.args.self.now = rw (c.deref.ensures.value, c.self.view_is) front in
    c.copied.ensures ∙ c.last.ensures.value ∙ last_is before ∙ ap last_pair is
