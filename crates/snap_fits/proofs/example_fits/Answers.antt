use Rattle.snap_fits.proofs.Example.{example_fits as the_law}
use Rattle.snap_fits.proofs.example_fits.Goals as goal

pub returns : goal.returns
returns c = the_law
