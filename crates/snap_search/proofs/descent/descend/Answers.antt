use Rattle.std.proofs.Common.{◌∙◌}
use Rattle.snap_search.specs.Prelude.{step_at}
use Rattle.snap_search.proofs.Finding.{begins, comes_on, goes_on}
use Rattle.snap_search.proofs.Keeping.{step_stays, way_kept, way_none, way_stays}
use Rattle.snap_search.proofs.descent.descend.Goals as goal

pub loop-init : goal.loop-init
loop-init g c =
    let rows = c.args.rows.now.rows in let k = c.args.pass.now in let key = c.args.key in let e = c.args.epoch in let s = c.top-spot in let a = c.top-above in (
      tt,
      tt,
      begins rows k key e s.result c.requires.way s.ensures.row.0 s.ensures.row.1 s.ensures.side,
      (begins rows k key e a.result c.requires.way a.ensures.row.0 a.ensures.row.1 a.ensures.side).step,
      way_none rows k.view c.clear.new.self c.clear.ensures.steps,
      c.clear.ensures.stayed,
    )

pub look_for_place-requires-clause-epoch : goal.look_for_place-requires-clause-epoch
look_for_place-requires-clause-epoch g c = c.loop.invariant.2.works.present c.args.epoch c.requires.epoch

pub returns-in-Ok-clause-comes : goal.returns-in-Ok-clause-comes
returns-in-Ok-clause-comes g c = comes_on c.args.rows.now.rows c.args.pass.now c.loop.pass c.look_for_place.new.pass c.args.key c.args.epoch c.loop.spot c.in-Ok.place c.loop.invariant.2 c.in-Ok.ensures

pub returns-in-Ok-clause-spot : goal.returns-in-Ok-clause-spot
returns-in-Ok-clause-spot g c = step_stays c.args.rows.now.rows c.loop.pass.view c.look_for_place.new.pass.view (step_at c.loop.spot) c.in-Ok.ensures.works.kept c.loop.invariant.2.step

pub returns-in-Ok-clause-above : goal.returns-in-Ok-clause-above
returns-in-Ok-clause-above g c = step_stays c.args.rows.now.rows c.loop.pass.view c.look_for_place.new.pass.view (step_at c.loop.above) c.in-Ok.ensures.works.kept c.loop.invariant.3

pub returns-in-Ok-clause-way : goal.returns-in-Ok-clause-way
returns-in-Ok-clause-way g c = way_stays c.args.rows.now.rows c.loop.pass.view c.look_for_place.new.pass.view c.loop.way c.in-Ok.ensures.works.kept c.loop.invariant.4

pub returns-in-Ok-clause-stayed : goal.returns-in-Ok-clause-stayed
returns-in-Ok-clause-stayed g c = c.loop.invariant.5

pub loop-preserved : goal.loop-preserved
loop-preserved g c =
    let rows = c.args.rows.now.rows in let mid = c.loop.pass in let new = c.look_for_place.new.pass in let s = c.loop.spot in let kept = c.in-Err.ensures.works.kept in
    let step = step_stays rows mid.view new.view (step_at s) kept c.loop.invariant.2.step in (
      tt,
      tt,
      goes_on rows c.args.pass.now mid new c.args.key c.args.epoch s c.in-Err.next c.loop.invariant.2 c.in-Err.ensures,
      step,
      way_kept rows new.view c.loop.way c.meet.new.self (step_at s) step c.meet.ensures.steps (way_stays rows mid.view new.view c.loop.way kept c.loop.invariant.4),
      c.meet.ensures.stayed ∙ c.loop.invariant.5,
    )
