use Rattle.std.proofs.Common.{rules}
use Rattle.std.specs.Prelude.{nat_lt}
use Rattle.std.proofs.lemmas.List.Sorted.{IsPartitionPoint-from_clause, IsPartitionedBy-ltb}
use Rattle.snap_model.proofs.Cutting.{cut, keys_rise}
use Rattle.snap_model.proofs.plain_map.count_below.Goals as goal

-- the closure tests the key alone, and a sorted list is parted by that test
pub returns : goal.returns
returns c =
    let facts = c.partition_point.ensures in
    let parted = IsPartitionedBy-ltb (λ p. p.0) c.args.pairs.now c.args.key (keys_rise _ c.requires) in
    cut _ _ _ facts.bound (IsPartitionPoint-from_clause (λ p. nat_lt p.0 c.args.key) _ _ facts.partitioned parted (λ a r g called. search rules))
