use Rattle.snap_steps.specs.Steps.Settling.{StoresHeight}
use Rattle.snap_steps.proofs.settling.store_height.Given as goal

-- the right height
abbrev pub ghosts-store_told : goal.ghosts-store_told
ghosts-store_told a = record { then = StoresHeight a.told.0 a.row a.told.1 }
