use Rattle.std.proofs.Common.{ap}
use Rattle.snap_shape.proofs.Begun.{ends_turn, key_still, stamps_still}
use Rattle.snap_prelude.specs.{Known}
use Rattle.snap_shape.proofs.end_turn.Goals as goal

pub link_lowered-requires-clause-change : goal.link_lowered-requires-clause-change
link_lowered-requires-clause-change c = ap (λ (k : Known). k.view.doing) c.requires.begun.2.begun

pub link_lowered-requires-clause-middle : goal.link_lowered-requires-clause-middle
link_lowered-requires-clause-middle c = c.requires.begun.2.middle_is

pub link_parent-requires-clause-key : goal.link_parent-requires-clause-key
link_parent-requires-clause-key c = let h = c.requires.begun in key_still h.0 c.args.pass.now c.link_lowered.new.pass c.link_raised.new.pass c.args.turn.now h.1 c.args.middle h.2 c.link_lowered.ensures c.link_raised.ensures

pub link_parent-requires-clause-stamps : goal.link_parent-requires-clause-stamps
link_parent-requires-clause-stamps c = let h = c.requires.begun in stamps_still h.0 c.args.pass.now c.link_lowered.new.pass c.link_raised.new.pass c.args.turn.now h.1 c.args.middle h.2 c.link_lowered.ensures c.link_raised.ensures

pub returns : goal.returns
returns c = λ old key h.
    ends_turn old c.args.pass.now c.link_lowered.new.pass c.link_raised.new.pass c.args.turn.now key c.args.middle h c.link_lowered.ensures c.link_raised.ensures
    c.link_parent.new.pass c.clear_shrinking.new.pass c.link_parent.ensures.pass c.clear_shrinking.ensures c.link_parent.ensures.listed
