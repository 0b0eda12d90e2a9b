use Rattle.std.specs.Prelude.{◌≡◌, false}
use Rattle.snap_search.specs.Prelude.{Goes, IsStep, IsWay, step_at}
use Rattle.snap_search.proofs.descent.descend.Given as goal

-- so far the search has come to a spot from the one above, and it kept such rows to which it came
abbrev pub invariant-loop : goal.invariant-loop
invariant-loop g l = (goal.iterator-loop g).can_next l.iterator' × (goal.iterator-loop g).is_finite l.iterator' × Goes l.rows.rows l.fn.pass l.pass l.fn.key l.fn.epoch l.spot × IsStep l.rows.rows l.pass.view (step_at l.above) × IsWay l.rows.rows l.pass.view l.way × (l.way.stayed ≡ false)
