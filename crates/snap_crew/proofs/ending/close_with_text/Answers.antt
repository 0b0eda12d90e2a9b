use Rattle.snap_crew.proofs.{Closing.text_is, Speaking.fits_if}
use Rattle.snap_crew.proofs.ending.close_with_text.Goals as goal

pub returns : goal.returns
returns g c = let f = c.in_ok-text.ensures in record {
  fits = λ w passes seated admits. fits_if c.args.service c.final_text.new.own c.close.result w passes (c.close.ensures.fits f.callers) seated (f.keeps passes admits);
  workers = record {
    only = λ t. c.close.ensures.only f.callers t;
    uncut = λ none t. absurd cc;
  };
  closed = record { kit = c.final_text.new.own; seated = f.kit; closed = c.close.ensures.closed };
  text = text_is c.args.service c.final_text.new.own c.close.result c.in_ok-text.text.items c.requires.tables f.kit c.close.ensures.closed f.text;
}
