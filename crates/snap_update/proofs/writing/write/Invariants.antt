use Rattle.snap_prelude.specs.{call_key}
use Rattle.snap_update.specs.Attempts.{KeepsTrying}
use Rattle.snap_update.proofs.writing.write.Given as goal

-- so far the pass has made no entry, and drew rows for copies alone
abbrev pub invariant-loop : goal.invariant-loop
invariant-loop g l = (goal.iterator-loop g).can_next l.iterator' × (goal.iterator-loop g).is_finite l.iterator' × KeepsTrying l.fn.pass l.pass (call_key l.call)
