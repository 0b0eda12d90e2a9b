use Rattle.std.proofs.Common.{sym, subst, arith}
use Rattle.std.proofs.lemmas.List.{get_or_default}
use Rattle.snap_model.specs.SortedMap.{IsSortedMap}
use Rattle.snap_model.proofs.Finding.{found_tells, gap_tells}
use Rattle.snap_model.proofs.plain_map.PlainMap.get.Goals as goal

pub returns-in-Ok : goal.returns-in-Ok
returns-in-Ok c =
    let tells = found_tells _ (subst IsSortedMap c.self.view_is c.self.invariant) _ _ c.in-Ok.ensures.found in
    let read = get_or_default _ _ c.index.result.now (0, 0) c.in-Ok.ensures.found.within in
    grind (arith, c.self.view_is, tells.value)

pub returns-in-Err : goal.returns-in-Err
returns-in-Err c = sym (gap_tells _ (subst IsSortedMap c.self.view_is c.self.invariant) _ _ c.in-Err.ensures.absent).absent
