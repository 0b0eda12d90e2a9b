use Rattle.snap_steps.specs.Steps.Unlinking.{unlinked_stored}
use Rattle.snap_steps.proofs.unlinking.mark_unlinked.Given as goal

-- the row leaves the tree
abbrev pub ghosts-store_told : goal.ghosts-store_told
ghosts-store_told a = record { then = unlinked_stored a.told.0 a.told.1 a.row a.told.2 a.told.3 }
