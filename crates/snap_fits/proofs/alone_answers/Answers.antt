use Rattle.snap_fits.proofs.Alone.{alone_answers as the_law}
use Rattle.snap_fits.proofs.alone_answers.Goals as goal

pub returns : goal.returns
returns c = the_law
