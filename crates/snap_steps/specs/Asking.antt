-- What a step on a table's words has to show before it is made.
use Rattle.std.specs.Prelude.{ℕ}
use Rattle.atomic_table.specs.Table.{Allows}
use Rattle.snap_steps.specs.Rule.{Kept}
use Rattle.snap_steps.specs.Seen.{Laid}
use Rattle.snap_steps.specs.Steps.Told.{Sat}
use Rattle.snap_steps.specs.declared.rule.About.{About}

-- the size of a table, as its rule was told it
abbrev pub about_of : Laid → About
about_of table = record { rows = table.rows; passes = table.passes }

-- whatever the table is when the word becomes f of what it was: the seat has a new view by which the
-- rule is kept, and `then` is true of what was found and of the seat after
abbrev pub Permits : Laid → ℕ → Sat → ℕ → (ℕ → ℕ) → (ℕ → Sat → Type 0) → Type 0
Permits table id me word f then =
    Allows (λ s. Kept (about_of table) s.words s.views) table.table.slots id me word f then
