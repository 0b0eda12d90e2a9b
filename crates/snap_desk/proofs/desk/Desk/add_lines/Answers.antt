use Rattle.std.proofs.Common.{[], refl}
use Rattle.snap_desk.proofs.Putting.{lines_added, puts_from}
use Rattle.snap_desk.specs.declared.desk.Desk.{Desk}
use Rattle.snap_text.specs.Replies.{reply_text}
use Rattle.snap_desk.proofs.desk.Desk.add_lines.Goals as goal

pub returns-clause-adds : goal.returns-clause-adds
returns-clause-adds g c =
    let d = c.args.self.now in let m : Desk = record { post = d.post; reply = d.reply; who = d.who; pieces = d.pieces; lines = c.reply_line.new.into; full = d.full } in let h = c.in_ok-reply_line.ensures in
    lines_added c.put_lines.result d m c.put_lines.new.self (reply_text c.args.command.now c.args.reply.now) refl refl refl h.ok c.put_lines.ensures.adds

pub returns-clause-goes_on : goal.returns-clause-goes_on
returns-clause-goes_on g c = puts_from c.args.self.now c.reply_line.new.into c.args.self.now.full c.put_lines.new.self [] c.put_lines.ensures.goes_on
