-- The lines of a text, and the words of a line.
use Rattle.std.specs.Prelude.{◌==◌, ◌||◌, not, ℕ, Bool, List, length, filter}
use Rattle.std.specs.List.{slice_split}
-- Lines end with LF, which the last may lack; a CR before the LF is no part of its line; an empty
-- text has no line.
pub use Rattle.std.specs.Str.Lines.{lines}

-- the byte separates words: a space or a tab
abbrev pub is_blank : ℕ → Bool
is_blank b = (b == 32) || (b == 9)

-- what stands between blanks, where it has a byte
abbrev pub words : List ℕ → List (List ℕ)
words line = filter (λ word. not (length word == 0)) (slice_split is_blank line)
