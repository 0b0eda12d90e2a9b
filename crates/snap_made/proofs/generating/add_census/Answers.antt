use Rattle.std.proofs.lemmas.Result.{IfOk-weaker}
use Rattle.snap_made.proofs.Generated.{census_added, census_when, census_unless}
use Rattle.snap_made.proofs.generating.add_census.Goals as goal

pub returns-then-not-is_multiple_of : goal.returns-then-not-is_multiple_of
returns-then-not-is_multiple_of c = census_unless c.args.script.now c.args.drawn c.is_multiple_of.result c.is_multiple_of.ensures c.if-not-is_multiple_of.true

pub returns : goal.returns
returns c =
    IfOk-weaker c.add-3.result _ _
    (λ _ last. census_when c.args.script.now c.add-3.new.script c.args.drawn c.is_multiple_of.result c.is_multiple_of.ensures c.if-not-is_multiple_of.false
    (census_added c.args.script.now c.add.new.script c.add-2.new.script c.add-3.new.script c.in_ok-name.name c.in_ok-name-2.name c.in_ok-name.ensures c.in_ok-name-2.ensures c.in_ok-add.ensures c.in_ok-add-2.ensures last))
    c.add-3.ensures
