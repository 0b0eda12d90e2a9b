use Rattle.std.proofs.Common.{◌≡◌, ◌∙◌, rules, ap, refl, []}
use Rattle.snap_repair.proofs.{Inner.stops_none, Lowering.times_none, Lowering.tries_locked, Mending.looks_on}
use Rattle.snap_prelude.specs.{times}
use Rattle.snap_repair.proofs.repairing.at_parent.Goals as goal

pub returns-then-not-leads_to : goal.returns-then-not-leads_to
returns-then-not-leads_to g c =
    let a = c.args.pass.now in let b = c.grip_of.new.pass in let d = c.leads_to.new.pass in let s = looks_on a b d c.grip_of.ensures.looks c.leads_to.ensures.looks in stops_none c.args.rows.now.rows a d s.0.mends s.1

pub returns : goal.returns
returns g c =
    let a = c.args.pass.now in let b = c.grip_of.new.pass in let d = c.leads_to.new.pass in let s = looks_on a b d c.grip_of.ensures.looks c.leads_to.ensures.looks in let free : times c.args.end.now.row a.view.holds ≡ 0 = ap (times c.args.end.now.row) c.requires.held ∙ times_none c.args.end.now.row c.args.end.now.above [] (search rules) refl in
    tries_locked c.args.rows.now.rows a d c.lock.new.pass c.at_row-why.new.pass c.unlock.new.pass c.args.end.now.row c.at_row-why.result s.0.mends s.1 free c.lock.ensures c.at_row-why.ensures c.unlock.ensures
