use Rattle.snap_search.proofs.Tries.{leads_last}
use Rattle.snap_search.proofs.trying.SeekSearch.load_last.Goals as goal

pub returns : goal.returns
returns c from point a = let t = c.try_last_word.ensures in leads_last c.args.self.now from c.args.pass.now c.try_last_word.new.pass c.args.key point c.try_last_word.result t.0 a t.1 t.2 t.3
