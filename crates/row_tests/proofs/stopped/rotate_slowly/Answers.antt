use Rattle.std.proofs.Common.{◌+◌, ap, refl}
use Rattle.snap_shape.proofs.{Begun.across_read, Begun.ends_turn, Begun.key_still, Begun.stamps_still, Shaping.stamp_known}
use Rattle.snap_prelude.specs.{cleared, Known}
use Rattle.row_tests.proofs.stopped.rotate_slowly.Goals as goal

pub begin_turn-middle-requires : goal.begin_turn-middle-requires
begin_turn-middle-requires g c = c.requires.rotates

pub link_lowered-requires-clause-change : goal.link_lowered-requires-clause-change
link_lowered-requires-clause-change g c = ap (λ (k : Known). k.view.doing) c.begin_turn-middle.ensures.begun.begun

pub link_lowered-requires-clause-middle : goal.link_lowered-requires-clause-middle
link_lowered-requires-clause-middle g c = c.begin_turn-middle.ensures.begun.middle_is

pub link_parent-requires-clause-key : goal.link_parent-requires-clause-key
link_parent-requires-clause-key g c = let b = c.begin_turn-middle in key_still c.args.pass.now b.new.pass c.link_lowered.new.pass c.link_raised.new.pass c.args.turn.now c.args.turn.now.row.key b.result b.ensures.begun c.link_lowered.ensures c.link_raised.ensures

pub link_parent-requires-clause-stamps : goal.link_parent-requires-clause-stamps
link_parent-requires-clause-stamps g c = let b = c.begin_turn-middle in stamps_still c.args.pass.now b.new.pass c.link_lowered.new.pass c.link_raised.new.pass c.args.turn.now c.args.turn.now.row.key b.result b.ensures.begun c.link_lowered.ensures c.link_raised.ensures

pub clear_shrinking-requires-clause-stamp : goal.clear_shrinking-requires-clause-stamp
clear_shrinking-requires-clause-stamp g c =
    let b = c.begin_turn-middle in let t = c.args.turn.now in let turned : Known = c.link_parent.new.pass in
    let after : Known = record { table = turned.table; view = cleared turned.view t.row.row (t.row.stamp + 2 + 2) } in
    stamp_known c.args.pass.now (across_read c.args.pass.now t b.result) b.new.pass c.link_lowered.new.pass c.link_raised.new.pass turned after t.parent t.parent_side t.row t.side t.raised b.result t.row.key
    (record { load = refl; mark = b.ensures.begun.begun; lower = c.link_lowered.ensures; lift = c.link_raised.ensures; raise = c.link_parent.ensures.pass; clear = refl })

pub returns-clause-turned : goal.returns-clause-turned
returns-clause-turned g c =
    let b = c.begin_turn-middle in
    ends_turn c.args.pass.now b.new.pass c.link_lowered.new.pass c.link_raised.new.pass c.args.turn.now c.args.turn.now.row.key b.result b.ensures.begun c.link_lowered.ensures c.link_raised.ensures
    c.link_parent.new.pass c.clear_shrinking.new.pass c.link_parent.ensures.pass c.clear_shrinking.ensures c.link_parent.ensures.listed
