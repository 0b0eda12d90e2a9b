use Rattle.std.proofs.Common.{◌≡◌, ◌++◌}
use Rattle.snap_prelude.specs.{after, range}
use Rattle.snap_view.specs.Walks.{pairs_left}
use Rattle.snap_service.proofs.session.serving.pairs_from.Given as goal

-- the pairs that have come, and those that are left
abbrev pub invariant-loop-pair : goal.invariant-loop-pair
invariant-loop-pair l = goal.iterator-loop-pair.can_next l.pair-iterator × goal.iterator-loop-pair.is_finite l.pair-iterator × (l.pairs.items ++ pairs_left l.pair-iterator ≡ range (after l.fn.view.base) l.lo l.hi)
