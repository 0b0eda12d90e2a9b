use Rattle.std.proofs.Common.{◌∙◌, rules, subst}
use Rattle.snap_repair.proofs.Inner.{aims_mends, stops_none, tries_after}
use Rattle.snap_repair.proofs.Mending.{looks_on, mends_on}
use Rattle.snap_prelude.specs.{MayAimAt}
use Rattle.snap_repair.proofs.repairing.at_row.Goals as goal

pub returns-then-not-may_aim : goal.returns-then-not-may_aim
returns-then-not-may_aim g c =
    let a = c.args.pass.now in let b = c.grip_of.new.pass in let d = c.may_aim.new.pass in let s = looks_on a b d c.grip_of.ensures.looks c.may_aim.ensures.looks in stops_none c.args.rows.now.rows a d s.0.mends s.1

pub aim-requires-clause-aims : goal.aim-requires-clause-aims
aim-requires-clause-aims g c =
    subst (λ r. MayAimAt c.may_aim.new.pass.view r) c.in-Some.ensures.grip.0 (c.may_aim.ensures.aims (search rules))

pub returns : goal.returns
returns g c =
    let a = c.args.pass.now in let b = c.grip_of.new.pass in let d = c.may_aim.new.pass in let s = looks_on a b d c.grip_of.ensures.looks c.may_aim.ensures.looks in let e = c.aim.new.pass in let m = aims_mends d e c.args.end.now.row c.in-Some.row.key c.aim.ensures in tries_after c.args.rows.now.rows a e c.settle.new.pass c.settle.result (mends_on a d e s.0.mends m.0) (m.1 ∙ s.1) c.settle.ensures
