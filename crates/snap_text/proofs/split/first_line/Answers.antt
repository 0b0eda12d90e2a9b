use Rattle.std.proofs.Common.{rules, ◌∙◌, add-one}
use Rattle.std.proofs.lemmas.List.{take_rest}
use Rattle.snap_text.proofs.Splits.{last_line, line_at}
use Rattle.snap_text.proofs.split.first_line.Goals as goal

pub returns-in-Some : goal.returns-in-Some
returns-in-Some c =
    let cut = line_at c.args.text.now c.in-Some.end (search rules) (search rules) (search rules) in
    let line = c.without_return.ensures in
    cut ∙ simp (take_rest, add-one, line)

pub returns-in-None : goal.returns-in-None
returns-in-None c = last_line c.args.text.now (search rules) (search rules)
