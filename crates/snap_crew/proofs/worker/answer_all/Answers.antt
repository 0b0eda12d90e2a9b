use Rattle.std.proofs.Common.{◌++◌, ℕ, List, [], arith, ap, ◌∙◌, refl, subst, sym, Option}
use Rattle.snap_prelude.proofs.Common.{length-map}
use Rattle.snap_desk.specs.{Answers.and_answer, Answers.exported_file, Puts.AreOthers}
use Rattle.snap_text.specs.declared.script.Line.{Line}
use Rattle.snap_service.specs.Prelude.{text_of}
use Rattle.snap_crew.specs.Prelude.{script_commands}
use Rattle.snap_crew.proofs.Replying.{serves_reply}
use Rattle.snap_crew.proofs.Sitting.{any_text_other, desk_start, has_answered, keeps_on, named_on, other_at}
use Rattle.snap_crew.proofs.Working.{can_run, command_at, command_within, few_full, one_more}
use Rattle.snap_crew.proofs.worker.answer_all.Goals as goal

pub loop-line-init : goal.loop-line-init
loop-line-init g c = desk_start c.args.loads.now c.args.seat.now.job.who (script_commands c.args.seat.now.job.script.now) c.args.seat.now.job.session c.args.seat.now.desk c.requires.can c.requires.blank

pub loop-line-preserved : goal.loop-line-preserved
loop-line-preserved g c =
    let i = c.loop-line.line-index in let script = c.args.seat.now.job.script.now in let cs = script_commands script in let line = c.line-item.result in let v = c.loop-line.invariant in
    let l = command_within script i c.loop-line-test.true in let is = command_at script i line c.loop-line-test.true c.line-item.is in let text = c.run.new.out.items in let reply = c.in_ok-reply.reply in
    let more = and_answer v.answered line.command reply text in
    record {
      answered = more;
      at = one_more c.args.loads.now c.args.seat.now.job.who cs i v.answered c.args.seat.now.job.session c.loop-line.seat.job.session line.command l is v.at
          reply more c.run.new.self text refl refl refl (c.in_ok-reply.ensures.exported ∙ ap (λ (x : List ℕ). x ++ text_of c.loop-line.seat.job.session line.command) c.new-text.ensures.items) c.in_ok-reply.ensures.serves c.in_ok-reply.ensures.fits c.run.ensures.tables c.run.ensures.uses;
      of = c.in_ok-add.ensures.answer v.answered v.of;
      named = named_on cs i line.command (let a = v.answered in a.exports) text l is v.named;
      keeps = keeps_on cs i line.command c.args.seat.now.desk c.loop-line.seat.desk c.add.new.self text l is v.keeps c.add.ensures.goes_on (λ e. (c.add.ensures.none e).0);
    }

pub run-requires-clause-can : goal.run-requires-clause-can
run-requires-clause-can g c =
    let i = c.loop-line.line-index in let script = c.args.seat.now.job.script.now in let line = c.line-item.result in let v = c.loop-line.invariant in
    can_run c.args.loads.now c.args.seat.now.job.who (script_commands script) i v.answered c.args.seat.now.job.session c.loop-line.seat.job.session line.command (command_within script i c.loop-line-test.true) (command_at script i line c.loop-line-test.true c.line-item.is) v.at

pub run-requires-clause-uses : goal.run-requires-clause-uses
run-requires-clause-uses g c = let h = c.requires.can in let v = c.loop-line.invariant in let a = v.at in omega (arith, h.few, a.few, c.loop-line-test.true, length-map c.args.seat.now.job.script.now (λ (x : Line). x.command))

pub returns-clause-answered : goal.returns-clause-answered
returns-clause-answered g c = has_answered c.args.loads.now c.args.seat.now.job.who (script_commands c.args.seat.now.job.script.now) c.loop-line.line-index c.args.seat.now.job.session c.loop-line.seat.job.session c.args.seat.now.desk c.loop-line.seat.desk
    (omega (arith, c.loop-line-test.false, length-map c.args.seat.now.job.script.now (λ (x : Line). x.command))) c.loop-line.invariant

pub add-requires-clause-reply : goal.add-requires-clause-reply
add-requires-clause-reply g c = serves_reply c.args.loads.now c.loop-line.seat.job.session c.run.new.self c.line-item.result.command c.in_ok-reply.reply c.in_ok-reply.ensures.serves

pub add-requires-clause-others : goal.add-requires-clause-others
add-requires-clause-others g c =
    let i = c.loop-line.line-index in let script = c.args.seat.now.job.script.now in let line = c.line-item.result in let v = c.loop-line.invariant in let k = v.keeps in let same = k.same in
    any_text_other c.loop-line.seat.desk.reply line.command [] c.run.new.out.items
    (subst (λ (o : Option (List ℕ)). AreOthers o (exported_file line.command [])) (sym same.reply) (other_at c.args.seat.now.desk.reply (script_commands script) i line.command (command_within script i c.loop-line-test.true) (command_at script i line c.loop-line-test.true c.line-item.is) c.requires.others))

pub add-requires-clause-few : goal.add-requires-clause-few
add-requires-clause-few g c =
    let i = c.loop-line.line-index in let script = c.args.seat.now.job.script.now in let line = c.line-item.result in let v = c.loop-line.invariant in let of = v.of in
    let few = few_full c.args.loads.now c.args.seat.now.job.who (script_commands script) i v.answered c.args.seat.now.job.session c.loop-line.seat.job.session line.command (command_within script i c.loop-line-test.true) (command_at script i line c.loop-line-test.true c.line-item.is) v.at in
    let h = c.requires.can in omega (arith, few, of.full, c.loop-line-test.true, h.few, length-map c.args.seat.now.job.script.now (λ (x : Line). x.command))

pub returns-in_err-add-clause-keeps : goal.returns-in_err-add-clause-keeps
returns-in_err-add-clause-keeps g c =
    let i = c.loop-line.line-index in let script = c.args.seat.now.job.script.now in let line = c.line-item.result in let v = c.loop-line.invariant in
    keeps_on (script_commands script) i line.command c.args.seat.now.desk c.loop-line.seat.desk c.add.new.self c.run.new.out.items (command_within script i c.loop-line-test.true) (command_at script i line c.loop-line-test.true c.line-item.is) v.keeps c.add.ensures.goes_on (λ e. (c.add.ensures.none e).0)
