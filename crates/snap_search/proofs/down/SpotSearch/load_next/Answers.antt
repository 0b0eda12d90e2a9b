use Rattle.snap_search.proofs.Coming.{leads}
use Rattle.snap_search.proofs.down.SpotSearch.load_next.Goals as goal

pub returns-clause-leads : goal.returns-clause-leads
returns-clause-leads c from point a = let l = c.load_next_word in leads c.args.rows.now.rows c.args.self.now from c.args.pass.now l.new.pass c.args.key point l.result a l.ensures.pass l.ensures.bound c.requires.table.1
