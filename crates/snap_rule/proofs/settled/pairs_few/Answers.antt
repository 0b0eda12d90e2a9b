use Rattle.std.proofs.Common.{arith}
use Rattle.snap_rule.proofs.Trees.Sizes.{pairs_size, size_full}
use Rattle.snap_rule.proofs.settled.pairs_few.Goals as goal

pub returns : goal.returns
returns c = λ t. omega (arith, pairs_size t, size_full t)
