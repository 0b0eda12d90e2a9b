-- The uses of a pass over the rounds of a test: nine a round at most.
use Rattle.std.proofs.Common.{ℕ, ◌+◌, ◌*◌, ◌≤◌, arith}
use Rattle.snap_prelude.specs.{Known, Laid}
use Rattle.snap_table.specs.Ready.{IsReadyTo}

pub ready_more : (rows : Laid) (who few most : ℕ) (pass : Known) → few ≤ most → IsReadyTo rows who few pass → IsReadyTo rows who most pass
ready_more rows who few most pass le h = record {
  of = h.of;
  passing = h.passing;
  who_is = h.who_is;
  idle = h.idle;
  none_admitted = h.none_admitted;
  few = omega (arith, h.few, le);
}

-- a round without a clone
pub round_ready : (rows : Laid) (who round : ℕ) (pass : Known) → IsReadyTo rows who (9 * round + 8) pass → IsReadyTo rows who (9 * (round + 1)) pass
round_ready rows who round pass h = ready_more rows who (9 * round + 8) (9 * (round + 1)) pass (omega arith) h

-- a round with one
pub clone_ready : (rows : Laid) (who round : ℕ) (old new : Known) → IsReadyTo rows who (9 * round + 8) old → ((most : ℕ) → IsReadyTo rows who most old → IsReadyTo rows who (most + 1) new) → IsReadyTo rows who (9 * (round + 1)) new
clone_ready rows who round old new h clones = ready_more rows who (9 * round + 8 + 1) (9 * (round + 1)) new (omega arith) (clones (9 * round + 8) h)
