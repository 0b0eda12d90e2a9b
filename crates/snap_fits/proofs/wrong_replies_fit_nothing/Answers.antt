use Rattle.snap_fits.proofs.Depths.{causeless, other_pairs, too_deep}
use Rattle.snap_fits.proofs.Wrong.{new_value, older_get, stale_clone}
use Rattle.snap_fits.proofs.wrong_replies_fit_nothing.Goals as goal

pub returns : goal.returns
returns c = record {
  put = new_value;
  get = older_get;
  clone = stale_clone;
  pairs = other_pairs;
  deep = too_deep;
  causeless = causeless;
}
