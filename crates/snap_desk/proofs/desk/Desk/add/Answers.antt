use Rattle.std.proofs.Common.{◌∙◌}
use Rattle.snap_desk.proofs.desk.Desk.add.Goals as goal

pub returns-in_err-add_lines-clause-goes_on : goal.returns-in_err-add_lines-clause-goes_on
returns-in_err-add_lines-clause-goes_on g c = let h = c.add_lines.ensures.goes_on in record {
  same = (let s = h.same in record { reply = s.reply; who = s.who; outlet = s.outlet; sender = s.sender });
  counted = h.counted;
  pieces = λ names ini inx all. h.pieces names ini tt all;
}

pub returns-clause-goes_on : goal.returns-clause-goes_on
returns-clause-goes_on g c = let h = c.add_lines.ensures.goes_on in let k = c.put_export.ensures in record {
  same = (let s = h.same in let t = k.same in record { reply = t.reply ∙ s.reply; who = t.who ∙ s.who; outlet = t.outlet ∙ s.outlet; sender = t.sender ∙ s.sender });
  counted = λ counted. k.counted (h.counted counted);
  pieces = λ names ini inx all. k.pieces names inx (h.pieces names ini tt all);
}
