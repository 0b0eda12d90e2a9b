use Rattle.std.proofs.Common.{ℕ, replicate, ap, ◌∙◌}
use Rattle.snap_steps.proofs.Classes.Adding.{starts}
use Rattle.snap_steps.proofs.rows.Rows.laid.Goals as goal

pub of_words-requires : goal.of_words-requires
of_words-requires c = starts (record { rows = c.args.rows; passes = c.args.passes }) c.as_slice.result.now c.requires.rows.1 c.requires.passes.1 (c.as_slice.ensures.value ∙ c.in_ok-words.ensures ∙ ap (λ (n : ℕ). replicate n 0) c.words_of.ensures)
