use Rattle.snap_steps.specs.Steps.Settling.{height_loaded}
use Rattle.snap_steps.proofs.settling.load_height.Given as goal

-- the height of the child
abbrev pub ghosts-load_told : goal.ghosts-load_told
ghosts-load_told a = record { then = height_loaded a.told.0 a.told.1 a.row }
