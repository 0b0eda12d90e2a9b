use Rattle.snap_steps.specs.Steps.Writes.{ConfirmsAbsent}
use Rattle.snap_steps.proofs.absences.confirm_absent_below.Given as goal

-- the removal that finds none
abbrev pub ghosts-load_told : goal.ghosts-load_told
ghosts-load_told a = record { then = ConfirmsAbsent a.told }
