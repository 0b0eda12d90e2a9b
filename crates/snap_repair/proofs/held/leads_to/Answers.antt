use Rattle.snap_repair.proofs.Mending.{read_looks}
use Rattle.std.proofs.Common.{◌≢◌, rules, subst}
use Rattle.snap_shape.proofs.Touching.{loaded_here}
use Rattle.snap_prelude.specs.{Field, IsKnown}
use Rattle.snap_repair.proofs.held.leads_to.Goals as goal

pub returns-clause-looks : goal.returns-clause-looks
returns-clause-looks c = read_looks c.args.pass.now c.load_word.new.pass c.args.parent.now.row c.link.result c.load_word.result c.load_word.ensures.pass

pub returns-clause-another : goal.returns-clause-another
returns-clause-another c = λ no.
    let b = c.load_word.new.pass in let p = c.args.parent.now.row in
    let other : c.load_word.result ≢ c.args.row = search rules in
    (c.load_word.result, other, subst (λ (f : Field). IsKnown b.view.words.knows p f c.load_word.result) c.link.ensures (loaded_here c.args.pass.now b p c.link.result c.load_word.result c.requires.grip.held c.load_word.ensures.pass))
