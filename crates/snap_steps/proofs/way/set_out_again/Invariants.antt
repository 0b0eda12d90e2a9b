use Rattle.snap_steps.specs.Steps.Way.{way_begun_again}
use Rattle.snap_steps.proofs.way.set_out_again.Given as goal

-- the way of the key
abbrev pub ghosts-load_told : goal.ghosts-load_told
ghosts-load_told a = record { then = way_begun_again a.told }
