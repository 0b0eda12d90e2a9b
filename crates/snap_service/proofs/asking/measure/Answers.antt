use Rattle.std.proofs.Common.{ap, sym}
use Rattle.snap_service.specs.Prelude.{is_yes}
use Rattle.snap_service.proofs.Measuring.{measured, not_yes}
use Rattle.snap_service.proofs.asking.measure.Goals as goal

pub returns-in-Yes : goal.returns-in-Yes
returns-in-Yes c =
    let d = c.depth-depth.ensures in
    measured c.args.view.now c.depth-depth.new.self c.count-pairs.new.self c.settled.new.self c.depth-depth.result c.count-pairs.result c.settled.result _
    c.requires d.view c.count-pairs.ensures.view d.depth d.low d.pairs d.shallow c.count-pairs.ensures.count c.settled.ensures (sym (ap is_yes c.in-Yes.is))

pub returns-in_default : goal.returns-in_default
returns-in_default c =
    let d = c.depth-depth.ensures in
    measured c.args.view.now c.depth-depth.new.self c.count-pairs.new.self c.settled.new.self c.depth-depth.result c.count-pairs.result c.settled.result _
    c.requires d.view c.count-pairs.ensures.view d.depth d.low d.pairs d.shallow c.count-pairs.ensures.count c.settled.ensures (not_yes c.settled.result c.in_default.not-Yes)
