use Rattle.snap_rule.proofs.Debts.{fits_kept as the_fits_kept}
use Rattle.snap_rule.proofs.debt.fits_kept.Goals as goal

pub returns : goal.returns
returns c = the_fits_kept
