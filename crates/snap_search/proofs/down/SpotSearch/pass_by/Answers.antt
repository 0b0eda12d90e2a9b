use Rattle.std.proofs.Common.{rules, ◌≢◌, ℕ, refl}
use Rattle.snap_search.proofs.Coming.{passes}
use Rattle.snap_search.proofs.down.SpotSearch.pass_by.Goals as goal

pub returns-clause-passes : goal.returns-clause-passes
returns-clause-passes c from a =
    let x : ℕ = c.load_next_word-found.result in let ne : x ≢ c.args.key = search rules in
    passes c.args.self.now from c.args.pass.now c.load_next_word-found.new.pass c.args.key c.args.child c.args.stamp x a c.load_next_word-found.ensures.pass (record { row = c.args.child; stamp = c.args.stamp; side = c.toward.result }) ne c.toward.ensures refl refl
