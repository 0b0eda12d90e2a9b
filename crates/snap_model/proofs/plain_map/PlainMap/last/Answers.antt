use Rattle.std.proofs.Common.{◌∙◌, ap}
use Rattle.snap_model.specs.SortedMap.{last_pair}
use Rattle.snap_model.proofs.Cutting.{last_is}
use Rattle.snap_model.proofs.plain_map.PlainMap.last.Goals as goal

pub returns : goal.returns
returns c = c.copied.ensures ∙ c.last.ensures.value ∙ last_is c.deref.result.now ∙ ap last_pair (c.deref.ensures.value ∙ c.self.view_is)
