use Rattle.std.proofs.Common.{sym, subst, arith}
use Rattle.std.proofs.lemmas.List.{get_or_default}
use Rattle.snap_model.specs.SortedMap.{IsSortedMap}
use Rattle.snap_model.proofs.Rising.{sorted_after_remove}
use Rattle.snap_model.proofs.Finding.{found_tells, gap_tells}
use Rattle.snap_model.proofs.plain_map.PlainMap.remove.Goals as goal

pub invariant_of-self : goal.invariant_of-self
invariant_of-self c =
    let sorted = subst IsSortedMap c.self.view_is c.self.invariant in
    rw (c.remove.ensures.items, c.self.view_is, (found_tells _ sorted _ _ c.in-Ok.ensures.found).removed) (sorted_after_remove _ c.args.key sorted)

pub returns-in-Ok-clause-was : goal.returns-in-Ok-clause-was
returns-in-Ok-clause-was c =
    let tells = found_tells _ (subst IsSortedMap c.self.view_is c.self.invariant) _ _ c.in-Ok.ensures.found in
    let read = get_or_default _ _ c.remove.result (0, 0) c.in-Ok.ensures.found.within in
    grind (arith, c.self.view_is, tells.value)

pub returns-in-Ok-clause-map : goal.returns-in-Ok-clause-map
returns-in-Ok-clause-map c = rw (c.remove.ensures.items, c.self.view_is) (found_tells _ (subst IsSortedMap c.self.view_is c.self.invariant) _ _ c.in-Ok.ensures.found).removed

pub returns-in-Err-clause-was : goal.returns-in-Err-clause-was
returns-in-Err-clause-was c = sym (gap_tells _ (subst IsSortedMap c.self.view_is c.self.invariant) _ _ c.in-Err.ensures.absent).absent

pub returns-in-Err-clause-map : goal.returns-in-Err-clause-map
returns-in-Err-clause-map c = (gap_tells _ (subst IsSortedMap c.self.view_is c.self.invariant) _ _ c.in-Err.ensures.absent).removed
