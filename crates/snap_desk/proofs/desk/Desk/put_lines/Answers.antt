use Rattle.std.proofs.Common.{[], Vec, Global, ℕ, ap, refl, ◌∙◌}
use Rattle.snap_desk.proofs.Putting.{lines_put, one_for, puts_from, reply_in}
use Rattle.snap_desk.specs.declared.desk.Desk.{Desk}
use Rattle.snap_desk.proofs.desk.Desk.put_lines.Goals as goal

pub returns-clause-adds : goal.returns-clause-adds
returns-clause-adds g c =
    let d = c.args.self.now in let m : Desk = record { post = d.post; reply = d.reply; who = d.who; pieces = d.pieces; lines = c.replace-lines.new.dest; full = d.full } in
    lines_put c.put.result d m c.put.new.self _ c.in_ok-file.file c.replace-lines.result.items c.in-Some.is (let s = c.put.ensures.same in s.reply) refl c.put.ensures.full
    (c.put.ensures.lines ∙ ap (λ (v : Vec ℕ Global). v.items) c.replace-lines.ensures.after ∙ c.new-2.ensures.items) (c.in_ok-file.ensures ∙ c.text.ensures) (ap (λ (v : Vec ℕ Global). v.items) c.replace-lines.ensures.value) c.put.ensures.put

pub returns-clause-goes_on : goal.returns-clause-goes_on
returns-clause-goes_on g c =
    let d = c.args.self.now in let m : Desk = record { post = d.post; reply = d.reply; who = d.who; pieces = d.pieces; lines = c.replace-lines.new.dest; full = d.full } in
    puts_from d c.replace-lines.new.dest d.full c.put.new.self [] (record {
      same = c.put.ensures.same;
      counted = c.put.ensures.counted;
      pieces = λ names ini inx all.
          one_for c.put.result m c.put.new.self c.in_ok-file.file c.replace-lines.result.items names c.put.ensures.put c.put.ensures.stays
          (reply_in names d.reply _ c.in_ok-file.file c.in-Some.is (c.in_ok-file.ensures ∙ c.text.ensures) ini) all;
    })
