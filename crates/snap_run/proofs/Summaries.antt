-- The lines of a summary, table by table.
use Rattle.std.proofs.Common.{suc, zero, ◌≡◌, ◌<◌, ◌≤◌, ◌+◌, ℕ, List, [], ◌∷◌, ◌++◌, length, get_or, take, sym, ◌∙◌, ap, ap₂, append_assoc, append-nil, add-one, arith}
use Rattle.snap_prelude.proofs.Common.{take_all}
use Rattle.snap_prelude.specs.{Ended}
use Rattle.snap_run.specs.Printed.{table_line, table_lines}

lines_more : (names : List (List ℕ)) (fronts : List Ended) (i : ℕ) (name : List ℕ) (f : Ended) → i < length names → i < length fronts → name ≡ get_or names i name → f ≡ get_or fronts i f
    → table_lines (take (suc i) names) (take (suc i) fronts) ≡ table_lines (take i names) (take i fronts) ++ table_line name f.writes f.pairs
lines_more [] fronts i name f l m is at = absurd (omega (arith, l))
lines_more (n ∷ names) [] i name f l m is at = absurd (omega (arith, m))
lines_more (n ∷ names) (g ∷ fronts) zero name f l m is at = append-nil (table_line n g.writes g.pairs) ∙ sym (ap₂ (λ (x : List ℕ) (y : Ended). table_line x y.writes y.pairs) is at)
lines_more (n ∷ names) (g ∷ fronts) (suc i) name f l m is at =
    ap (λ (t : List ℕ). table_line n g.writes g.pairs ++ t) (lines_more names fronts i name f (omega (arith, l)) (omega (arith, m)) is at)
    ∙ sym (append_assoc (table_line n g.writes g.pairs) (table_lines (take i names) (take i fronts)) (table_line name f.writes f.pairs))

pub lines_next : (names : List (List ℕ)) (fronts : List Ended) (i : ℕ) (name : List ℕ) (f : Ended) → i < length names → length fronts ≡ length names → name ≡ get_or names i name → f ≡ get_or fronts i f
    → table_lines (take (i + 1) names) (take (i + 1) fronts) ≡ table_lines (take i names) (take i fronts) ++ table_line name f.writes f.pairs
lines_next names fronts i name f l same is at = rw add-one (lines_more names fronts i name f l (omega (arith, l, same)) is at)

pub lines_all : (names : List (List ℕ)) (fronts : List Ended) (i : ℕ) → length fronts ≡ length names → length names ≤ i → table_lines (take i names) (take i fronts) ≡ table_lines names fronts
lines_all names fronts i same past = ap₂ table_lines (take_all i names past) (take_all i fronts (omega (arith, same, past)))
