use Rattle.snap_steps.specs.Steps.Settling.{up_passed}
use Rattle.snap_steps.proofs.aiming.pass_up.Given as goal

-- the key goes up to the parent
abbrev pub ghosts-load_told : goal.ghosts-load_told
ghosts-load_told a = record { then = up_passed a.told.0 a.told.1 a.row }
