-- Locking a row and freeing it.
use Rattle.std.specs.Prelude.{ℕ, [], ◌∷◌, ◌++◌, ◌≡◌, ◌≢◌}
use Rattle.atomic_table.specs.Table.{Step}
use Rattle.snap_stamp.specs.Layout.{word_at}
use Rattle.snap_stamp.specs.declared.layout.Field.TheVariants.{Lock}
use Rattle.snap_steps.specs.declared.view.View.{View}
use Rattle.snap_steps.specs.Facts.{fact, forgotten_row, heights_forgotten}
use Rattle.snap_steps.specs.Counting.{removed}
use Rattle.snap_steps.specs.Steps.Told.{Sat, Has}

abbrev pub locked : View → ℕ → View
locked v r = record v { holds = r ∷ v.holds }

-- a try that found this word in place of 0, and changed nothing
abbrev pub missed : View → ℕ → ℕ → View
missed v r word =
    record v { words = record v.words { refused = v.words.refused ++ fact r Lock word ∷ [] } }

abbrev pub unlocked : View → ℕ → View
unlocked v r = record v {
  holds = removed r v.holds;
  words = record v.words { knows = forgotten_row v.words.knows r };
  heights = heights_forgotten v.heights r;
}

abbrev pub locking_tried : Step (Unit {0}) → Sat → ℕ → Sat → Type 0
locking_tried st m r n = (row : ℕ) → st.word ≡ word_at row Lock
    → (r ≡ 0 → Has m n (locked m.0 row)) × (r ≢ 0 → Has m n (missed m.0 row r))

abbrev pub lock_freed : Step (Unit {0}) → Sat → ℕ → Sat → Type 0
lock_freed st m r n = (row : ℕ) → st.word ≡ word_at row Lock → Has m n (unlocked m.0 row)
