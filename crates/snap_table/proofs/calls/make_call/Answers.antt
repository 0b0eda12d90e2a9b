use Rattle.std.proofs.Common.{rules, ◌≡◌, inl, ap, ◌∙◌}
use Rattle.snap_prelude.specs.{Known}
use Rattle.snap_table.proofs.Gated.{mending, owes_nothing, refuses, replies}
use Rattle.snap_table.proofs.calls.make_call.Goals as goal

pub repair-requires-clause-mending : goal.repair-requires-clause-mending
repair-requires-clause-mending g c = mending c.args.pass.now c.enter.new.pass c.write.new.pass c.args.call.now c.in-Ok.reply c.requires.idle c.enter.ensures c.in-Ok.ensures.answers

pub leave-requires-clause-owes : goal.leave-requires-clause-owes
leave-requires-clause-owes g c =
    let of : c.write.new.pass.view.rows ≡ c.args.rows.now.rows = search rules in
    owes_nothing c.args.rows.now.rows c.write.new.pass c.repair.new.pass c.repair.result of c.repair.ensures

pub leave-requires-in-Err-clause-owes : goal.leave-requires-in-Err-clause-owes
leave-requires-in-Err-clause-owes g c = inl (c.in-Err.ensures.answers.1.goes.debt ∙ ap (λ (k : Known). k.view.debt) c.enter.ensures.is)

pub returns-in-Ok : goal.returns-in-Ok
returns-in-Ok g c = replies c.args.rows.now.rows c.args.pass.now c.enter.new.pass c.write.new.pass c.repair.new.pass c.leave.new.pass c.args.call.now c.in-Ok.reply c.repair.result c.requires.idle c.enter.ensures c.in-Ok.ensures.answers c.repair.ensures c.leave.ensures

pub returns-in-Err : goal.returns-in-Err
returns-in-Err g c =
    let e = c.in-Err.ensures.answers in (e.0, refuses c.args.rows.now.rows c.args.pass.now c.enter.new.pass c.write.new.pass c.leave-in-Err.new.pass c.args.call.now c.requires.idle c.enter.ensures e.1 c.leave-in-Err.ensures)
