use Rattle.std.proofs.Common.{◌<◌, ◌^◌, List, ℕ, subst, sym, arith, IfSome, map}
use Rattle.snap_io.specs.Prelude.{Rose}
use Rattle.snap_text.specs.declared.script.Line.{Line}
use Rattle.snap_crew.specs.Prelude.{answers_in, AreFilesApart, script_commands, IsAfter, IsTask}
use Rattle.snap_run.specs.{Files.last_in, Files.names_written, Reports.fulls_in, Reports.IsReported, Reports.summary_in}
use Rattle.snap_run.specs.{Worlds.world}
use Rattle.snap_run.proofs.{Asked.files_apart, Asked.kept_as_named, Asked.replies_blank, Carried.few_commands}
use Rattle.snap_run.proofs.{Carried.few_full, Carried.files_differ, Kept.after_kept, Kept.answers_kept}
use Rattle.snap_run.proofs.{Kept.kept_through, Kept.last_kept, Kept.made_kept, Results.both_ok, Settled.both_after}
use Rattle.snap_run.proofs.{Tasks.is_task, Whole.fin_of, Whole.replies_differ, Whole.whole}
use Rattle.snap_run.proofs.carrying.complete.Goals as goal

pub create_replies-made-requires : goal.create_replies-made-requires
create_replies-made-requires g c = replies_differ c.args.plan.now c.requires.runnable

pub run_scripts-requires-clause-task : goal.run_scripts-requires-clause-task
run_scripts-requires-clause-task g c κs within =
    subst (λ (ns : List (List ℕ)). IsTask ns c.args.plan.now.rows c.args.plan.now.loads c.list.result.now) (sym c.list-2.ensures)
    (subst (λ (xs : List (List Line)). IsTask c.args.plan.now.tables c.args.plan.now.rows c.args.plan.now.loads xs) (sym c.list.ensures) (is_task c.args.plan.now c.requires.runnable))

pub run_scripts-requires-clause-files : goal.run_scripts-requires-clause-files
run_scripts-requires-clause-files g c κs within = record {
  apart = subst (λ (xs : List (List Line)). IfSome c.reply_names.result (λ names. AreFilesApart names.now (map script_commands xs))) (sym c.list.ensures)
      (files_apart c.args.plan.now c.requires.runnable c.requires.a_worker_each c.reply_names.result c.reply_names.ensures);
  blank = replies_blank c.args.plan.now.replies c.reply_names.result c.create_replies-made.result (g.S.Shelf.files c.args.shelf.now) (g.S.Shelf.files c.create_replies-made.new.shelf) c.reply_names.ensures c.create_replies-made.ensures.written;
}

pub report-requires-clause-few_commands : goal.report-requires-clause-few_commands
report-requires-clause-few_commands g c =
    let plan = c.args.plan.now in let f = c.in_ok-finished.finished in let done = c.in_ok-finished.ensures.finished in
    let fin = fin_of plan done.answered f _ _ _ c.list.ensures c.list-2.ensures c.is_some.ensures done.finished in
    few_commands plan c.requires.runnable c.requires.a_worker_each done.answered f fin

pub report-requires-clause-few_full : goal.report-requires-clause-few_full
report-requires-clause-few_full g c =
    let plan = c.args.plan.now in let f = c.in_ok-finished.finished in let done = c.in_ok-finished.ensures.finished in
    let fin = fin_of plan done.answered f _ _ _ c.list.ensures c.list-2.ensures c.is_some.ensures done.finished in
    subst (λ (ns : List ℕ). fulls_in ns < 2 ^ 63) (sym c.deref.ensures.value) (few_full plan c.requires.runnable c.requires.a_worker_each done.answered f fin)

pub returns-clause-carried : goal.returns-clause-carried
returns-clause-carried g c =
    let plan = c.args.plan.now in let f = c.in_ok-finished.finished in let done = c.in_ok-finished.ensures.finished in let bs = done.answered in
    let fin = fin_of plan bs f _ _ _ c.list.ensures c.list-2.ensures c.is_some.ensures done.finished in
    let w0 = g.S.Shelf.write_faults c.args.shelf.now in let w1 = g.S.Shelf.write_faults c.create_replies-made.new.shelf in
    let w2 = g.S.Shelf.write_faults c.run_scripts.new.shelf in let w3 = g.S.Shelf.write_faults c.write_last_after-written.new.shelf in
    let mid = g.S.Shelf.files c.create_replies-made.new.shelf in let ran = g.S.Shelf.files c.run_scripts.new.shelf in let new = g.S.Shelf.files c.write_last_after-written.new.shelf in
    let old = world (g.S.Shelf.files c.args.shelf.now) (g.K.Sink.written c.args.sink.now) (g.S.Shelf.read_faults c.args.shelf.now) w0 (g.K.Sink.faults c.args.sink.now) in
    let now = world new (g.K.Sink.written c.report.new.sink) (g.S.Shelf.read_faults c.write_last_after-written.new.shelf) w3 (g.K.Sink.faults c.report.new.sink) in
    let made = c.create_replies-made.result in let last = c.write_last_after-written.result in
    let first = subst (λ o. IsAfter made f.written (answers_in o bs) mid ran (Rose w1 w2)) c.reply_names.ensures done.after in
    let after = both_after (answers_in plan.replies bs) (last_in plan.last f.last) (files_differ plan c.requires.runnable c.requires.a_worker_each bs f fin) made f.written last mid ran new w1 w2 w3
    c.in_ok-finished.ensures.later c.write_last_after-written.ensures.later first c.write_last_after-written.ensures.after in
    both_ok c.report.result _ _ _
    (λ o same told. whole plan c.requires.runnable c.requires.a_worker_each bs f fin old now mid w1 made last o same
    c.create_replies-made.ensures.later (omega (arith, c.in_ok-finished.ensures.later, c.write_last_after-written.ensures.later))
    c.create_replies-made.ensures.written c.create_replies-made.ensures.begun c.create_replies-made.ensures.stops after
    (subst (λ (ns : List ℕ). IsReported old.printed now.printed (Rose old.printing now.printing) (summary_in plan.scripts ns plan.tables f.fronts) (fulls_in ns) last o.status) c.deref.ensures.value told))
    c.report.ensures.fronts c.report.ensures.told

pub returns-in_err-finished-clause-kept : goal.returns-in_err-finished-clause-kept
returns-in_err-finished-clause-kept g c =
    let plan = c.args.plan.now in let old = g.S.Shelf.files c.args.shelf.now in let mid = g.S.Shelf.files c.create_replies-made.new.shelf in let ran = g.S.Shelf.files c.run_scripts.new.shelf in
    kept_through (names_written plan) old mid ran (made_kept plan c.create_replies-made.result old mid c.create_replies-made.ensures.written c.create_replies-made.ensures.begun)
    (answers_kept plan mid ran (kept_as_named plan _ c.list.result.now mid ran c.reply_names.ensures c.list.ensures c.in_err-finished.ensures.kept))

pub returns-clause-kept : goal.returns-clause-kept
returns-clause-kept g c =
    let plan = c.args.plan.now in let f = c.in_ok-finished.finished in
    let old = g.S.Shelf.files c.args.shelf.now in let mid = g.S.Shelf.files c.create_replies-made.new.shelf in
    let ran = g.S.Shelf.files c.run_scripts.new.shelf in let new = g.S.Shelf.files c.write_last_after-written.new.shelf in
    kept_through (names_written plan) old mid new
    (made_kept plan c.create_replies-made.result old mid c.create_replies-made.ensures.written c.create_replies-made.ensures.begun)
    (kept_through (names_written plan) mid ran new
    (answers_kept plan mid ran (kept_as_named plan _ c.list.result.now mid ran c.reply_names.ensures c.list.ensures c.in_ok-finished.ensures.kept))
    (last_kept plan f.last ran new (after_kept f.written c.write_last_after-written.result (last_in plan.last f.last) ran new _ c.write_last_after-written.ensures.after)))
