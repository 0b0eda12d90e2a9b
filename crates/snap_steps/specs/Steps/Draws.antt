-- A try to draw a row.
use Rattle.std.specs.Prelude.{ℕ, ◌+◌, [], ◌∷◌, ◌++◌, ◌≡◌, ◌≢◌, ◌≤◌}
use Rattle.atomic_table.specs.Table.{Step}
use Rattle.snap_steps.specs.declared.view.View.{View}
use Rattle.snap_steps.specs.Memory.{next_at}
use Rattle.snap_steps.specs.Steps.Header.{word_noted}
use Rattle.snap_steps.specs.declared.view.WordNote.TheVariants.{Next}
use Rattle.snap_steps.specs.Steps.Told.{Sat, Has}

abbrev pub drew : View → ℕ → View
drew v r = record v { drawn = v.drawn ++ r ∷ []; fresh = record v.fresh { own = r ∷ v.fresh.own } }

abbrev pub drawing_tried : Step (Unit {0}) → Sat → ℕ → Sat → Type 0
drawing_tried st m r n = (st.word ≡ next_at)
    × (r ≡ st.first → Has m n (drew m.0 (st.first + 1)))
    × (r ≢ st.first → Has m n (word_noted m.0 (Next r)))
    × (r ≤ m.0.rows)
