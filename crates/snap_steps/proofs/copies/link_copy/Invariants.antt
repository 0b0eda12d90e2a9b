use Rattle.snap_steps.specs.Steps.Copies.{LinksCopy}
use Rattle.snap_steps.proofs.copies.link_copy.Given as goal

-- the copy takes the place
abbrev pub ghosts-store_told : goal.ghosts-store_told
ghosts-store_told a = record { then = LinksCopy a.told }
