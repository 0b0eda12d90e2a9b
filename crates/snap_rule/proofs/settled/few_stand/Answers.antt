use Rattle.std.proofs.Common.{arith}
use Rattle.snap_rule.proofs.Trees.Sizes.{depth_size, pairs_size, few_stand as the_few_stand}
use Rattle.snap_rule.proofs.settled.few_stand.Goals as goal

pub returns : goal.returns
returns c = λ s next ok low. let few = the_few_stand s next ok low in (few, omega (arith, few, depth_size s.tree), omega (arith, few, pairs_size s.tree))
