-- What repairs leave of a pass. `snap_copy` has these already, for the copies that repairs make.
pub use Rattle.snap_copy.specs.Mending.{mended, LinksWhatItDraws, TellsFull, MendsTo, Mends, Firm, NoWord, Looks}
