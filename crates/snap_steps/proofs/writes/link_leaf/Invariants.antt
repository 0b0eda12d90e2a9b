use Rattle.snap_steps.specs.Steps.Writes.{leaf_hung}
use Rattle.snap_steps.proofs.writes.link_leaf.Given as goal

-- the leaf is linked
abbrev pub ghosts-store_told : goal.ghosts-store_told
ghosts-store_told a = record { then = leaf_hung a.told.0 a.told.1 a.row a.field }
