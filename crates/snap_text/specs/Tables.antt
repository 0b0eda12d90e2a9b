-- The text of a table: a header, and a line for each pair.
use Rattle.std.specs.Prelude.{ℕ, List, [], ◌∷◌, ◌++◌, codes, decimal}

-- the key, a comma, the value and LF
abbrev pub pair_line : ℕ → ℕ → List ℕ
pair_line key value = decimal key ++ 44 ∷ (decimal value ++ 10 ∷ [])

-- the lines of pairs, in their order
unfoldable pub pair_lines : List (ℕ × ℕ) → List ℕ
pair_lines [] = []
pair_lines (p ∷ ps) = pair_line p.0 p.1 ++ pair_lines ps

abbrev pub header_line : List ℕ
header_line = codes "key,value\n"

abbrev pub table_text : List (ℕ × ℕ) → List ℕ
table_text ps = header_line ++ pair_lines ps
