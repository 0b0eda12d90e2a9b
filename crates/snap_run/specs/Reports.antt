-- What is told once the scripts have run, and the status that it leads to.
use Rattle.std.specs.Prelude.{◌≡◌, ◌≢◌, ◌⊎◌, ◌++◌, ℕ, List, Option, Result, Ok, Err, length, sum_by}
use Rattle.snap_prelude.specs.{Ended}
use Rattle.snap_text.specs.declared.script.Line.{Line}
use Rattle.snap_write.specs.declared.unwritten.Unwritten.{Unwritten}
use Rattle.snap_write.specs.declared.unwritten.Unwritten.TheVariants as why
use Rattle.snap_run.specs.Printed.{fault_text, first_line, table_lines}
use Rattle.snap_run.specs.Worlds.{Adds, AddsPart, Tells}

-- how many commands scripts have, and how many replies are full, by the numbers of each worker
abbrev pub lines_in : List (List Line) → ℕ
lines_in scripts = sum_by (λ (x : List Line). length x) scripts

abbrev pub fulls_in : List ℕ → ℕ
fulls_in fulls = sum_by (λ (full : ℕ). full) fulls

abbrev pub summary_in : List (List Line) → List ℕ → List (List ℕ) → List Ended → List ℕ
summary_in scripts fulls tables fronts =
    first_line (length scripts) (lines_in scripts) (fulls_in fulls) ++ table_lines tables fronts

-- a summary was printed, or could not be
abbrev pub IsSummed : Option (List ℕ) → Option (List ℕ) → Type 0 → List ℕ → ℕ → ℕ → Type 0
IsSummed before now fault text full status =
    ((status ≡ 0) × (full ≡ 0) × Adds before now text)
    ⊎ ((status ≡ 1) × (full ≢ 0) × Adds before now text)
    ⊎ ((status ≡ 5) × fault × AddsPart before now text)

-- that, or the file that could not be written was told
abbrev pub IsReported : Option (List ℕ) → Option (List ℕ) → Type 0 → List ℕ → ℕ
    → Result (Unit {0}) Unwritten → ℕ → Type 0
IsReported before now fault text full (Ok u) status = IsSummed before now fault text full status
IsReported before now fault text full (Err (why.File name)) status =
    (status ≡ 5) × Tells before now fault (fault_text name)
IsReported before now fault text full (Err why.Memory) status = ⊥
