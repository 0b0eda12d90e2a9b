use Rattle.std.proofs.Common.{◌<◌, ◌^◌, ℕ, List, [], length, slice_index_or, refl, sym, ap, subst, arith}
use Rattle.snap_prelude.specs.{Known}
use Rattle.snap_service.specs.Prelude.{AreSeated, fronts_of, IsUncut, new_kit, new_session, pass_at}
use Rattle.snap_desk.proofs.Names.{some_of}
use Rattle.snap_crew.specs.Prelude.{AreWorkers, script_commands, IsTrue}
use Rattle.snap_crew.proofs.{Beginning.first_uses, Beginning.new_seated, Beginning.new_uncut}
use Rattle.snap_crew.proofs.{Handing.named_fit, Handing.true_front, Working.numbered}
use Rattle.snap_crew.proofs.scripts.run_on.Goals as goal

pub end_run-requires-clause-kit : goal.end_run-requires-clause-kit
end_run-requires-clause-kit g c = subst (λ (k : List Known). AreSeated c.args.service k) (sym c.requires.own) (new_seated c.args.service (length c.args.task.now.scripts.now))

pub end_run-requires-clause-uncut : goal.end_run-requires-clause-uncut
end_run-requires-clause-uncut g c = subst (λ (k : List Known). IsUncut c.args.service k) (sym c.requires.own) (new_uncut c.args.service (length c.args.task.now.scripts.now) (omega (arith, c.requires.tables.kits_are)))

pub end_run-requires-clause-receipts : goal.end_run-requires-clause-receipts
end_run-requires-clause-receipts g c i d l =
    let r = c.in_ok-ran.ensures.ran in let li : i < length c.args.task.now.scripts.now = omega (arith, l, r.receipts_each) in
    (let h = r.worked i (some_of c.args.task.now.scripts.now i li) d (some_of r.answered i (omega (arith, li, r.answers_each))) li in h.seated)

pub end_run-requires-clause-numbered : goal.end_run-requires-clause-numbered
end_run-requires-clause-numbered g c i d l =
    let r = c.in_ok-ran.ensures.ran in let li : i < length c.args.task.now.scripts.now = omega (arith, l, r.receipts_each) in
    let s = some_of c.args.task.now.scripts.now i li in let a = some_of r.answered i (omega (arith, li, r.answers_each)) in
    numbered c.args.task.now.loads.now i (script_commands (slice_index_or c.args.task.now.scripts.now i s)) (new_session c.args.service (new_kit c.args.service.laid i)) (slice_index_or c.in_ok-ran.ran.receipts.items i d) (slice_index_or r.answered i a)
    (r.worked i s d a li)

pub end_run-requires-clause-uses : goal.end_run-requires-clause-uses
end_run-requires-clause-uses g c = subst (λ (k : List Known). (pass_at k 0).view.uses < 2 ^ 48) (sym c.requires.own) (first_uses c.args.service.laid (length c.args.task.now.scripts.now))

pub returns-clause-finished : goal.returns-clause-finished
returns-clause-finished g c =
    let s = c.requires.tables in let end = c.in_ok-fronts.ensures in let ended = end.closed in let fronts = c.in_ok-fronts.field-0.fronts in let r = c.in_ok-ran.ensures.ran in
    let names = c.args.task.now.tables.now in let rows = c.args.task.now.rows in let loads = c.args.task.now.loads.now in let scripts = c.args.task.now.scripts.now in
    record {
      answered = r.answered;
      finished = record {
        a_front_each = omega (arith, ended.closed.a_front_each, ended.seated.a_pass_each, s.tables.a_name_each, ap length s.names_are);
        true_fronts = λ t d l. subst (λ (n : ℕ). IsTrue n (slice_index_or fronts t d)) s.rows_are (true_front c.args.service fronts s.tables ended t d l);
        workers = subst (λ (n : ℕ). AreWorkers n c.args.task.now.last fronts) r.receipts_each end.workers;
        answers_each = r.answers_each;
        fulls = r.fulls;
        fits = λ w d a l. named_fit c.args.service names rows (length scripts) loads (fronts_of fronts) w (script_commands (slice_index_or scripts w d)) (slice_index_or r.answered w a) s.names_are s.rows_are (omega (arith, s.kits_are))
            (end.fits w [] (omega (arith, l, r.receipts_each)) loads (script_commands (slice_index_or scripts w d)) (new_session c.args.service (new_kit c.args.service.laid w)) (slice_index_or r.answered w a) refl (r.worked w d [] a l));
        text = end.text;
      };
      after = r.after;
    }
