use Rattle.snap_steps.specs.Steps.Changes.{shrinking_stored}
use Rattle.snap_steps.proofs.changes.mark_shrinking.Given as goal

-- the rotation begins
abbrev pub ghosts-store_told : goal.ghosts-store_told
ghosts-store_told a = record { then = shrinking_stored a.told.0 a.told.1 a.row a.told.2 a.told.3 a.told.4 }
