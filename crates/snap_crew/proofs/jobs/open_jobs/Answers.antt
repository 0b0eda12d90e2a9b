use Rattle.std.proofs.Common.{◌≡◌, ◌<◌, List, [], length, sym, ap, subst, ◌∙◌, arith, slice_index_or}
use Rattle.snap_prelude.specs.{Known}
use Rattle.snap_text.specs.declared.script.Line.{Line}
use Rattle.snap_service.specs.Prelude.{AreSeated, new_kit, new_session}
use Rattle.snap_service.proofs.Ending.{fewer_is, last_is, one_less}
use Rattle.snap_crew.specs.Prelude.{script_commands, IsJob}
use Rattle.snap_prelude.proofs.Common.{length_push}
use Rattle.snap_crew.proofs.Beginning.{can_work, mirror_next, new_seated, place_is, straight}
use Rattle.snap_crew.proofs.jobs.open_jobs.Goals as goal

pub open_job-requires : goal.open_job-requires
open_job-requires c =
    let v = c.loop-kit.invariant in let fewer = c.pop.new.self.items in let kit = c.in-Some.kit in
    let one = one_less c.args.kits.items c.loop-kit.left.items fewer kit v.left c.in-Some.ensures.items in
    let is : kit ≡ new_kit c.args.service.now.laid (length fewer) = last_is c.args.kits.items c.loop-kit.left.items fewer kit v.left c.in-Some.ensures.items [] ∙ c.requires.new (length fewer) [] (omega (arith, one, v.all, c.requires.a_kit_each)) in
    subst (λ (k : List Known). AreSeated c.args.service.now k) (sym is) (new_seated c.args.service.now (length fewer))

pub loop-kit-preserved : goal.loop-kit-preserved
loop-kit-preserved c =
    let v = c.loop-kit.invariant in let fewer = c.pop.new.self.items in let kit = c.in-Some.kit in let scripts = c.args.scripts.now in let place = c.len-place.result in
    let one = one_less c.args.kits.items c.loop-kit.left.items fewer kit v.left c.in-Some.ensures.items in
    let within : length fewer < length scripts = omega (arith, one, v.all, c.requires.a_kit_each) in
    let here : place ≡ length fewer = omega (arith, c.len-place.ensures, c.pop.new.self.ok.0) in
    let is : kit ≡ new_kit c.args.service.now.laid (length fewer) = last_is c.args.kits.items c.loop-kit.left.items fewer kit v.left c.in-Some.ensures.items [] ∙ c.requires.new (length fewer) [] within in
    let job = c.in_ok-job.job in
    let script : (d : List Line) → job.script.now ≡ slice_index_or scripts (length fewer) d = λ d. c.in_ok-job.ensures.script ∙ place_is scripts place (length fewer) c.index-scripts-place.result d within here c.index-scripts-place.is in
    record {
      left = fewer_is c.args.kits.items c.loop-kit.left.items fewer kit v.left c.in-Some.ensures.items;
      all = omega (arith, ap length c.in_ok-push.ensures.items, length_push c.loop-kit.jobs.items job, one, v.all);
      jobs = λ d. mirror_next (length c.args.kits.items) c.loop-kit.jobs.items c.push.new.self.items (λ i x. IsJob c.args.loads.now c.args.service.now (script_commands (slice_index_or scripts i d)) i x)
          (length c.loop-kit.left.items) (length fewer) job one v.all c.in_ok-push.ensures.items
          (record {
            who_is = c.in_ok-job.ensures.who ∙ here;
            commands_are = ap script_commands (script d);
            on = c.in_ok-job.ensures.session ∙ ap (λ (k : List Known). new_session c.args.service.now k) is;
            can = can_work c.args.loads.now c.args.service.now (length fewer) kit job.session (script_commands (slice_index_or scripts (length fewer) d)) is c.in_ok-job.ensures.session c.in_ok-job.ensures.begins (c.requires.scripts_run (length fewer) d within);
          }) (v.jobs d);
    }

pub returns-clause-each : goal.returns-clause-each
returns-clause-each c = let v = c.loop-kit.invariant in let none = c.in_default.ensures in λ i d e l.
    straight (length c.args.kits.items) c.loop-kit.jobs.items c.reverse.new.self.items (λ k job. IsJob c.args.loads.now c.args.service.now (script_commands (slice_index_or c.args.scripts.now k d)) k job)
    (omega (arith, v.all, none.cases.0, c.loop-kit.left.ok.0)) c.reverse.ensures.items (v.jobs d) i e (omega (arith, l, c.requires.a_kit_each))
