use Rattle.std.proofs.Common.{◌∙◌, ◌++◌, sym, take}
use Rattle.snap_plan.specs.Needs.{commands_of}
use Rattle.snap_plan.proofs.Walking.{walked_first, walked_here, walked_more, walked_whole}
use Rattle.snap_plan.proofs.needs.Walk.take_script.Goals as goal

pub loop-line-init : goal.loop-line-init
loop-line-init c = λ taken before has. walked_first taken before c.args.lines.now _ has

pub loop-line-preserved : goal.loop-line-preserved
loop-line-preserved c = λ taken before has.
    let was = c.loop-line.invariant taken before has in
    let so_far = before ++ commands_of (take c.loop-line.line-index c.args.lines.now) in
    walked_more taken before c.args.lines.now c.loop-line.line-index c.line-item.result _ _ c.loop-line-test.true c.line-item.is was
    (sym (c.in_ok-limit.ensures.limit taken so_far was.needs) ∙ c.in_default.is) (c.in_ok-limit.ensures.needs taken so_far was.needs)

pub returns-in-Some-clause-passed : goal.returns-in-Some-clause-passed
returns-in-Some-clause-passed c = λ taken before has.
    let was = c.loop-line.invariant taken before has in
    let so_far = before ++ commands_of (take c.loop-line.line-index c.args.lines.now) in
    walked_here taken before c.args.lines.now c.loop-line.line-index c.line-item.result _ _ c.loop-line-test.true c.line-item.is was
    (sym (c.in_ok-limit.ensures.limit taken so_far was.needs) ∙ c.in-Some.is)

pub returns-clause-passed : goal.returns-clause-passed
returns-clause-passed c = λ taken before has. (walked_whole taken before c.args.lines.now c.loop-line.line-index _ (c.loop-line.invariant taken before has) c.loop-line-test.false).0

pub returns-clause-needs : goal.returns-clause-needs
returns-clause-needs c = λ taken before has. (walked_whole taken before c.args.lines.now c.loop-line.line-index _ (c.loop-line.invariant taken before has) c.loop-line-test.false).1
