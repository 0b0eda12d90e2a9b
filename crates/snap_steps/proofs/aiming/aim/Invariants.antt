use Rattle.snap_steps.specs.Steps.Settling.{row_aimed}
use Rattle.snap_steps.proofs.aiming.aim.Given as goal

-- the key comes to be that of the row
abbrev pub ghosts-load_told : goal.ghosts-load_told
ghosts-load_told a = record { then = row_aimed a.row a.told }
