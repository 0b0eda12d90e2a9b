use Rattle.std.proofs.Common.{rules}
use Rattle.snap_text.proofs.Splits.{last_word, word_at}
use Rattle.snap_text.proofs.split.word_and_rest.Goals as goal

pub returns-in-Some : goal.returns-in-Some
returns-in-Some c =
    let front = c.split_at.ensures.front in
    let back = c.split_at.ensures.back in
    rw (front, back) (word_at c.args.text.now c.in-Some.end c.requires.begins (search rules) (search rules) (search rules))

pub returns-in-None : goal.returns-in-None
returns-in-None c = last_word c.args.text.now c.requires.some (search rules)
