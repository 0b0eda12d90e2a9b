use Rattle.std.proofs.Common.{rules, ◌≢◌, ◌≤◌, ℕ, arith}
use Rattle.snap_search.proofs.Tries.{goes_below}
use Rattle.snap_search.proofs.trying.SeekSearch.pass_by.Goals as goal

pub returns-clause-passes : goal.returns-clause-passes
returns-clause-passes c from a =
    let s = c.args.self.now in let x : ℕ = c.try_next_word-found.result in let t = c.try_next_word-found.ensures.pass in let b = c.narrowed in
    let ne : x ≢ c.args.key = search rules in
    let above : s.first ≤ x = omega arith in let below : x ≤ s.last = omega arith in
    goes_below from c.args.pass.now c.try_next_word-found.new.pass c.args.key s b.result c.args.child c.args.stamp x t.0 a t.1 ne above below b.ensures.left b.ensures.spot.0 b.ensures.spot.1 b.ensures.side b.ensures.keys
