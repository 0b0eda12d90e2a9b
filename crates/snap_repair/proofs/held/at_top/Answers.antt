use Rattle.std.proofs.Common.{◌≡◌, ◌∙◌, rules, false, subst}
use Rattle.snap_repair.proofs.{Inner.aims_mends, LastRow.last_after, Mending.looks_on, Mending.mends_on}
use Rattle.snap_prelude.specs.{MayAimAt}
use Rattle.snap_repair.proofs.held.at_top.Goals as goal

pub aim-requires-clause-aims : goal.aim-requires-clause-aims
aim-requires-clause-aims c =
    let a = c.args.pass.now in let b = c.grip_of.new.pass in let d = c.ends_below.new.pass in let s = looks_on a b d c.grip_of.ensures.looks c.ends_below.ensures.looks in let here : c.args.end.now.here ≡ false = search rules in let stamp : c.in-Some.top.stamp ≡ c.args.end.now.stamp = search rules in
    subst (λ r. MayAimAt d.view r) c.in-Some.ensures.grip.0 (last_after c.args.rows.now.rows a b d c.args.task.now.key c.args.end.now c.in-Some.top c.requires.to_do c.requires.ends here c.in-Some.ensures.grip.0 stamp c.grip_of.ensures.looks c.in-Some.ensures.grip.1 c.ends_below.ensures.looks (c.ends_below.ensures.ends (search rules)))

pub returns-then-ends_below : goal.returns-then-ends_below
returns-then-ends_below c =
    let a = c.args.pass.now in let b = c.grip_of.new.pass in let d = c.ends_below.new.pass in let s = looks_on a b d c.grip_of.ensures.looks c.ends_below.ensures.looks in let m = aims_mends d c.aim.new.pass c.args.end.now.row c.args.task.now.key c.aim.ensures in (mends_on a d c.aim.new.pass s.0.mends m.0, m.1 ∙ s.1)

pub returns-else-ends_below : goal.returns-else-ends_below
returns-else-ends_below c =
    let a = c.args.pass.now in let b = c.grip_of.new.pass in let d = c.ends_below.new.pass in let s = looks_on a b d c.grip_of.ensures.looks c.ends_below.ensures.looks in (s.0.mends, s.1)
