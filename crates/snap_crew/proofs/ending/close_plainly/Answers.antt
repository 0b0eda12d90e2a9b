use Rattle.snap_service.proofs.Admitting.{uncut_callers}
use Rattle.snap_crew.proofs.{Closing.no_cut, Speaking.fits_if}
use Rattle.snap_crew.proofs.ending.close_plainly.Goals as goal

pub returns : goal.returns
returns c = let callers = uncut_callers c.args.service c.args.own c.requires.uncut in record {
  fits = λ w passes seated admits. fits_if c.args.service c.args.own c.close.result w passes (c.close.ensures.fits callers) seated admits;
  workers = record {
    only = λ t. c.close.ensures.only callers t;
    uncut = λ _ t. no_cut c.args.service c.args.own c.close.result c.close.ensures.closed c.requires.uncut t;
  };
  closed = record { kit = c.args.own; seated = c.requires.kit; closed = c.close.ensures.closed };
  text = tt;
}
