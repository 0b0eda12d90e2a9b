-- What a run prints once it was carried out.
use Rattle.std.specs.Prelude.{◌+◌, ℕ, List, [], ◌∷◌, ◌++◌, codes, decimal, length}
use Rattle.snap_fits.specs.Fits.{Told}
use Rattle.snap_prelude.specs.{Ended}
use Rattle.snap_crew.specs.Prelude.{fulls_of}
use Rattle.snap_plan.specs.declared.plan.Plan.{Plan}

-- how many commands were told, and how many of the replies are full
abbrev pub entries : List (List Told) → ℕ
entries [] = 0
entries (ts ∷ told) = length ts + entries told

abbrev pub fulls : List (List Told) → ℕ
fulls [] = 0
fulls (ts ∷ told) = fulls_of ts + fulls told

-- the first line of a summary
abbrev pub first_line : ℕ → ℕ → ℕ → List ℕ
first_line scripts commands full =
    codes "scripts " ++ decimal scripts ++ codes " commands " ++ decimal commands ++ codes " full "
    ++ decimal full ++ codes "\n"

-- the line of a table: how many writes made it, and how many pairs it has
abbrev pub table_line : List ℕ → ℕ → ℕ → List ℕ
table_line name writes pairs = codes "table " ++ name ++ codes " writes " ++ decimal writes
    ++ codes " pairs " ++ decimal pairs ++ codes "\n"

abbrev pub table_lines : List (List ℕ) → List Ended → List ℕ
table_lines (name ∷ names) (f ∷ fronts) =
    table_line name f.writes f.pairs ++ table_lines names fronts
table_lines _ _ = []

-- the summary of what was told, on the closed tables
abbrev pub summary : Plan → List (List Told) → List Ended → List ℕ
summary plan told fronts =
    first_line (length told) (entries told) (fulls told) ++ table_lines plan.tables fronts

abbrev pub fault_text : List ℕ → List ℕ
fault_text name = codes "write fault: " ++ name ++ codes "\n"

-- what is printed where memory was wanting
abbrev pub memory_text : List ℕ
memory_text = codes "out of memory\n"
