use Rattle.std.proofs.Common.{rules, ◌∙◌}
use Rattle.std.proofs.lemmas.List.{take_rest}
use Rattle.snap_text.proofs.Splits.{after_blanks, no_word}
use Rattle.snap_text.proofs.split.first_word.Goals as goal

pub returns-in_err-start : goal.returns-in_err-start
returns-in_err-start c = rw c.from_residual.ensures (no_word c.args.line.now (search rules))

pub returns : goal.returns
returns c =
    let rest = c.word_and_rest.ensures in
    after_blanks c.args.line.now c.in_ok-start.start (search rules) (search rules) ∙ simp take_rest at rest
