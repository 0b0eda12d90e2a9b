use Rattle.std.specs.String.{string_bytes}
use Rattle.std.proofs.Common.{List, Option, ℕ, ap, inr, map, subst, ◌∙◌}
use Rattle.snap_io.specs.Prelude.{Changes, Files}
use Rattle.snap_plan.specs.Endings.{ending_of}
use Rattle.snap_words.specs.Words.{job_of}
use Rattle.snap_run.specs.{Worlds.world, Files.KeepsOthers, Files.names_written}
use Rattle.snap_run.proofs.{Kept.kept_given, Kept.same_given, Ended.carried_by, Ended.of_made, Ended.stop_status}
use Rattle.snap_run.proofs.running.run.Goals as goal

pub returns-in-Ok-clause-good : goal.returns-in-Ok-clause-good
returns-in-Ok-clause-good g c = λ enough.
    let ws : List (List ℕ) = map string_bytes c.args.words.now in
    let now = world (g.S.Shelf.files c.carry_out.new.shelf) (g.K.Sink.written c.carry_out.new.sink) (g.S.Shelf.read_faults c.carry_out.new.shelf) (g.S.Shelf.write_faults c.carry_out.new.shelf) (g.K.Sink.faults c.carry_out.new.sink) in
    inr (record {
      plan = c.in-Ok.plan;
      of_words = record { asked = c.in-Ok.ensures.asked; runnable = c.in-Ok.ensures.runnable; gives = c.in-Ok.ensures.plan; made = of_made (job_of ws) _ _ (λ made both. both.1) c.in-Ok.ensures.made };
      carried = carried_by (g.S.Shelf.files c.args.shelf.now) (g.S.Shelf.files c.accept.new.shelf) (g.K.Sink.written c.args.sink.now) (g.S.Shelf.read_faults c.args.shelf.now) (g.S.Shelf.read_faults c.accept.new.shelf)
          (g.S.Shelf.write_faults c.args.shelf.now) (g.S.Shelf.write_faults c.accept.new.shelf) (g.K.Sink.faults c.args.sink.now) now c.in-Ok.plan c.carry_out.result
          c.accept.ensures.only_reads.same_files c.accept.ensures.only_reads.same_writes (c.carry_out.ensures.carried enough);
    })

pub returns-in-Err-clause-status : goal.returns-in-Err-clause-status
returns-in-Err-clause-status g c =
    let ws : List (List ℕ) = map string_bytes c.args.words.now in
    stop_status ws (g.S.Shelf.files c.args.shelf.now) c.in-Err.stop c.tell.result
    (world (g.S.Shelf.files c.args.shelf.now) (g.K.Sink.written c.args.sink.now) (g.S.Shelf.read_faults c.args.shelf.now) (g.S.Shelf.write_faults c.args.shelf.now) (g.K.Sink.faults c.args.sink.now))
    (world (g.S.Shelf.files c.accept.new.shelf) (g.K.Sink.written c.tell.new.sink) (g.S.Shelf.read_faults c.accept.new.shelf) (g.S.Shelf.write_faults c.accept.new.shelf) (g.K.Sink.faults c.tell.new.sink))
    c.in-Err.ensures.words_refused c.in-Err.ensures.stops c.tell.ensures.status

pub returns-in-Ok-clause-kept : goal.returns-in-Ok-clause-kept
returns-in-Ok-clause-kept g c =
    let ws : List (List ℕ) = map string_bytes c.args.words.now in
    kept_given (ending_of ws) c.in-Ok.plan (g.S.Shelf.files c.args.shelf.now) (g.S.Shelf.files c.carry_out.new.shelf) c.in-Ok.ensures.plan
    (subst (λ (x : Option Files). Changes x (g.S.Shelf.files c.carry_out.new.shelf) (KeepsOthers (names_written c.in-Ok.plan))) c.accept.ensures.only_reads.same_files c.carry_out.ensures.kept)

pub returns-in-Err-clause-kept : goal.returns-in-Err-clause-kept
returns-in-Err-clause-kept g c = same_given (ending_of (map string_bytes c.args.words.now)) (g.S.Shelf.files c.args.shelf.now) (g.S.Shelf.files c.accept.new.shelf) c.accept.ensures.only_reads.same_files

pub returns-in-Ok-clause-reads : goal.returns-in-Ok-clause-reads
returns-in-Ok-clause-reads g c =
    of_made (job_of (map string_bytes c.args.words.now)) _ _ (λ made both. c.carry_out.ensures.reads ∙ ap (λ s. g.S.Shelf.read_faults s) both.0) c.in-Ok.ensures.made

pub returns-in-Err-clause-reads : goal.returns-in-Err-clause-reads
returns-in-Err-clause-reads g c = of_made (job_of (map string_bytes c.args.words.now)) _ _ (λ made both. ap (λ s. g.S.Shelf.read_faults s) both.0) c.in-Err.ensures.made
