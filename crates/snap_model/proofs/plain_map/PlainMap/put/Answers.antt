use Rattle.std.proofs.Common.{sym, subst, arith}
use Rattle.std.proofs.lemmas.List.{get_or_default}
use Rattle.snap_model.specs.SortedMap.{IsSortedMap}
use Rattle.snap_model.proofs.Rising.{sorted_after_put}
use Rattle.snap_model.proofs.Finding.{found_tells, gap_tells}
use Rattle.snap_model.proofs.plain_map.PlainMap.put.Goals as goal

-- the key was there, and its pair is written over
pub returns-in-Ok-clause-was : goal.returns-in-Ok-clause-was
returns-in-Ok-clause-was c =
    let tells = found_tells _ (subst IsSortedMap c.self.view_is c.self.invariant) _ _ c.in-Ok.ensures.found in
    let read = get_or_default _ _ c.index.result.now (0, 0) c.in-Ok.ensures.found.within in
    grind (arith, c.self.view_is, tells.value)

pub returns-in-Ok-clause-map : goal.returns-in-Ok-clause-map
returns-in-Ok-clause-map c = rw c.self.view_is ((found_tells _ (subst IsSortedMap c.self.view_is c.self.invariant) _ _ c.in-Ok.ensures.found).put c.args.value)

-- the pair is added in the gap
pub returns-in_ok-insert-in-Err-clause-was : goal.returns-in_ok-insert-in-Err-clause-was
returns-in_ok-insert-in-Err-clause-was c = sym (gap_tells _ (subst IsSortedMap c.self.view_is c.self.invariant) _ _ c.in-Err.ensures.absent).absent

pub returns-in_ok-insert-in-Err-clause-map : goal.returns-in_ok-insert-in-Err-clause-map
returns-in_ok-insert-in-Err-clause-map c = rw (c.in_ok-insert-in-Err.ensures.items, c.self.view_is) ((gap_tells _ (subst IsSortedMap c.self.view_is c.self.invariant) _ _ c.in-Err.ensures.absent).put c.args.value)

pub invariant_of-self-in-Err : goal.invariant_of-self-in-Err
invariant_of-self-in-Err c =
    let sorted = subst IsSortedMap c.self.view_is c.self.invariant in
    rw (c.in_ok-insert-in-Err.ensures.items, c.self.view_is, (gap_tells _ sorted _ _ c.in-Err.ensures.absent).put c.args.value) (sorted_after_put _ c.args.key c.args.value sorted)

-- memory is wanting only for a key that was not there
pub returns-in_err-insert-in-Err-clause-known_key_fits : goal.returns-in_err-insert-in-Err-clause-known_key_fits
returns-in_err-insert-in-Err-clause-known_key_fits c known =
    grind (arith, (gap_tells _ (subst IsSortedMap c.self.view_is c.self.invariant) _ _ c.in-Err.ensures.absent).absent)
