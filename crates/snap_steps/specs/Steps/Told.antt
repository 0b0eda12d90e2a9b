-- What a step tells: of the step, the seat before, the number found and the seat after.
use Rattle.std.specs.Prelude.{◌≡◌, ◌≢◌, ℕ}
use Rattle.atomic_table.specs.Table.{Me, Step}
use Rattle.snap_steps.specs.declared.view.View.{View}

abbrev pub Sat : Type 0
Sat = Me (Unit {0}) View

-- the seat after a step that takes no slot
abbrev pub Has : Sat → Sat → View → Type 0
Has m n view = n ≡ (view, m.1)

-- a compare-exchange that changes the view so where it found what it expected, and else leaves a
-- note
abbrev pub Tried : Step (Unit {0}) → Sat → ℕ → Sat → View → View → Type 0
Tried st m r n won lost = (r ≡ st.first → Has m n won) × (r ≢ st.first → Has m n lost)
