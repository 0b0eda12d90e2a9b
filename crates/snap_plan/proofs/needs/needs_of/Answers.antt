use Rattle.std.proofs.Common.{◌<◌, ◌∙◌, length, subst, take, arith}
use Rattle.std.proofs.lemmas.List.{get_or_read}
use Rattle.snap_plan.specs.Needs.{all_commands}
use Rattle.snap_plan.specs.Walks.{AddsNeeds, PassesAt}
use Rattle.snap_plan.proofs.Walking.{left_first, left_more}
use Rattle.snap_plan.proofs.needs.needs_of.Goals as goal

pub loop-place-init : goal.loop-place-init
loop-place-init c = left_first c.args.taken.now c.args.names.now c.args.scripts.now c.in_ok-walk.walk c.in_ok-walk.ensures

pub loop-place-preserved : goal.loop-place-preserved
loop-place-preserved c =
    let taken = c.args.taken.now in
    let scripts = c.args.scripts.now in
    let i = c.loop-place.place in
    let lines = c.lines.result.now in
    let before = all_commands (take i scripts) in
    let was = c.loop-place.invariant in
    let named : i < length c.args.names.now = omega (arith, c.requires, c.loop-place-test.true) in
    left_more taken c.args.names.now scripts i lines c.loop-place.walk c.take_script.new.self named c.loop-place-test.true (c.lines.ensures ∙ get_or_read scripts i c.index-scripts-place.result c.loop-place-test.true c.index-scripts-place.is lines) was
    (subst (PassesAt taken before lines) c.in_default.is (c.in_ok-passed.ensures.passed taken before was.needs))
    (subst (AddsNeeds taken before lines c.take_script.new.self) c.in_default.is (c.in_ok-passed.ensures.needs taken before was.needs))
