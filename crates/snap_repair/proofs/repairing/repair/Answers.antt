use Rattle.std.proofs.Common.{◌≡◌, ◌∙◌, None, Option, Some, rules, subst}
use Rattle.snap_repair.proofs.{Inner.stops_to, Mending.epoch_looks, Mending.mends_on, Mending.mends_to}
use Rattle.snap_search.proofs.Keeping.{way_stays}
use Rattle.snap_repair.specs.{Answers.is_full, Answers.stops_full, Mending.MendsTo, declared.answer.Repaired.Repaired}
use Rattle.snap_repair.proofs.repairing.repair.Goals as goal

pub loop-init : goal.loop-init
loop-init g c =
    let a = c.args.pass.now in let b = c.load_epoch-epoch.new.pass in let s = epoch_looks a b c.load_epoch-epoch.result c.load_epoch-epoch.ensures.pass in
    (tt, tt, s.0.mends, s.1, way_stays c.args.rows.now.rows a.view b.view c.args.way.now s.0.mends.reached c.requires.way, search rules)

pub returns-in-Some-try_repair : goal.returns-in-Some-try_repair
returns-in-Some-try_repair g c = record {
  mends = mends_to (is_full c.in-Some-try_repair.why) c.args.pass.now c.loop.pass c.try_repair.new.pass c.loop.invariant.2 c.in-Some-try_repair.ensures.tries.mends;
  holds = c.in-Some-try_repair.ensures.tries.holds ∙ c.loop.invariant.3;
  tells = stops_to c.args.rows.now.rows c.args.pass.now c.loop.pass c.try_repair.new.pass (Some c.in-Some-try_repair.why) c.loop.invariant.2 c.in-Some-try_repair.ensures.tries.stops;
}

pub loop-preserved : goal.loop-preserved
loop-preserved g c =
    let none : c.try_repair.result ≡ None = search rules in
    let m = subst (λ (o : Option Repaired). MendsTo (stops_full o) c.loop.pass c.try_repair.new.pass) none c.try_repair.ensures.tries.mends in
    (tt, tt, mends_on c.args.pass.now c.loop.pass c.try_repair.new.pass c.loop.invariant.2 m, c.try_repair.ensures.tries.holds ∙ c.loop.invariant.3, c.try_repair.ensures.way, m.present c.load_epoch-epoch.result c.loop.invariant.5)
