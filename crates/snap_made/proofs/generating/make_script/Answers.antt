use Rattle.std.proofs.Common.{arith}
use Rattle.std.proofs.Math.Nat.{div-le_self}
use Rattle.std.proofs.lemmas.Nat.{div-add-mod'}
use Rattle.snap_made.proofs.Generated.{drawn_as, drawn_few, made_few, made_more, made_none, share_few}
use Rattle.snap_made.proofs.Slots.{made_in_range, made_uses}
use Rattle.snap_made.proofs.generating.make_script.Goals as goal

pub loop-drawn-init : goal.loop-drawn-init
loop-drawn-init c = made_none c.args.seed c.args.workers c.args.worker c.first_number-number.result c.new-script.result c.new-script.ensures c.first_number-number.ensures

pub add-requires : goal.add-requires
add-requires c =
    let few = made_few c.args.seed c.args.workers c.args.worker c.loop-drawn.drawn c.loop-drawn.script c.loop-drawn.number c.loop-drawn.invariant in
    omega (arith, few, div-le_self c.loop-drawn.drawn 10_000, c.share_of-drawn-end.ensures.few, c.loop-drawn-test.true)

pub add_census-requires : goal.add_census-requires
add_census-requires c =
    let few = made_few c.args.seed c.args.workers c.args.worker c.loop-drawn.drawn c.loop-drawn.script c.loop-drawn.number c.loop-drawn.invariant in
    let more = drawn_few c.loop-drawn.script c.add.new.script _ c.in_ok-add.ensures in
    omega (arith, few, more, div-le_self c.loop-drawn.drawn 10_000, c.share_of-drawn-end.ensures.few, c.loop-drawn-test.true)

pub loop-drawn-preserved : goal.loop-drawn-preserved
loop-drawn-preserved c =
    made_more c.args.seed c.args.workers c.args.worker c.loop-drawn.drawn c.loop-drawn.script c.add.new.script c.add_census.new.script
    c.loop-drawn.number c.number_after-a.result c.number_after-number.result c.loop-drawn.invariant
    c.number_after-a.ensures c.number_after-number.ensures (drawn_as _ _ _ _ c.in_ok-add.ensures c.command_of.ensures) c.in_ok-add_census.ensures

pub returns-clause-uses : goal.returns-clause-uses
returns-clause-uses c = made_uses c.args.seed c.args.workers c.args.worker c.loop-drawn.drawn c.loop-drawn.script c.loop-drawn.number c.loop-drawn.invariant

pub returns-clause-in_range : goal.returns-clause-in_range
returns-clause-in_range c = made_in_range c.args.seed c.args.workers c.args.worker c.loop-drawn.drawn c.loop-drawn.script c.loop-drawn.number c.loop-drawn.invariant

pub returns-clause-few : goal.returns-clause-few
returns-clause-few c =
    let few = made_few c.args.seed c.args.workers c.args.worker c.loop-drawn.drawn c.loop-drawn.script c.loop-drawn.number c.loop-drawn.invariant in
    let share = share_few c.args.commands c.args.workers c.args.worker c.requires.worker in
    omega (arith, few, share, div-add-mod' c.loop-drawn.drawn 10_000, c.share_of-drawn-end.ensures.share, c.requires.few, c.loop-drawn.auto.drawn-end)
