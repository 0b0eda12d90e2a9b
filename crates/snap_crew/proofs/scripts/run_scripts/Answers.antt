use Rattle.std.proofs.Common.{◌+◌, List, ℕ, length, refl, sym, subst}
use Rattle.snap_crew.specs.Jobs.{AreRunnableOn}
use Rattle.snap_crew.proofs.Beginning.{left_many, left_new, own_new}
use Rattle.snap_crew.proofs.scripts.run_scripts.Goals as goal

pub run_on-requires-clause-kits : goal.run_on-requires-clause-kits
run_on-requires-clause-kits g c κs within =
    let s = c.in_ok-service.ensures.service in let task = c.requires.task in let n = length c.args.task.now.scripts.now in
    record {
      of_service = s.tables;
      a_kit_each = left_many c.in_ok-service.service.laid c.in_ok-service.opened.items c.pop.new.self.items c.in-Some.own n (n + 1) refl c.in_ok-service.ensures.kits c.in-Some.ensures.items;
      new = left_new c.in_ok-service.service.laid c.in_ok-service.opened.items c.pop.new.self.items c.in-Some.own n (n + 1) refl c.in_ok-service.ensures.kits c.in-Some.ensures.items;
      scripts_run = subst (λ (names : List (List ℕ)). AreRunnableOn names c.args.task.now.loads.now c.args.task.now.scripts.now) (sym s.names_are) task.scripts_run;
      few = task.few;
    }

pub run_on-requires-clause-own : goal.run_on-requires-clause-own
run_on-requires-clause-own g c κs within = let n = length c.args.task.now.scripts.now in
    own_new c.in_ok-service.service.laid c.in_ok-service.opened.items c.pop.new.self.items c.in-Some.own n (n + 1) refl c.in_ok-service.ensures.kits c.in-Some.ensures.items
