-- Loads of a row's words, and stores in rows that aren't linked.
use Rattle.std.specs.Prelude.{◌≤◌, Bool, true, false, ℕ, ◌==◌, nat_lt, cond, List, [], ◌∷◌, ◌+◌, ◌++◌, ◌≡◌, nat_le, ◌||◌}
use Rattle.atomic_table.specs.Table.{Step}
use Rattle.snap_stamp.specs.Layout.{word_at}
use Rattle.snap_stamp.specs.declared.layout.Field.{Field}
use Rattle.snap_stamp.specs.declared.layout.Field.TheVariants.{Key, Birth, Stamp, Lock, Height, Left, Right, Value}
use Rattle.snap_steps.specs.declared.view.View.{View}
use Rattle.snap_steps.specs.Counting.{times, Among}
use Rattle.snap_steps.specs.Facts.{same_field, fact, forgotten, IsKnown}
use Rattle.snap_steps.specs.Steps.Told.{Sat, Has}
use Rattle.snap_stamp.specs.Stamps.{last_count, count_of}

abbrev pub is_link : Field → Bool
is_link Left = true
is_link Right = true
is_link Key = false
is_link Birth = false
is_link Stamp = false
is_link Lock = false
is_link Height = false
is_link Value = false

-- rows that a load leads to: a link, not 0, of row 0 on the right or of a row that was reached
abbrev pub led_to : View → ℕ → Field → ℕ → List ℕ
led_to v r f n = cond (is_link f)
    (cond (nat_lt 0 n)
    (cond (nat_lt 0 (times r v.trail.reached)) (n ∷ [])
    (cond (r == 0) (cond (same_field f Right) (n ∷ []) []) [])) []) []

-- whether the word is a stamp at its greatest count
abbrev pub is_last : Field → ℕ → Bool
is_last Stamp n = nat_le last_count (count_of n)
is_last Key n = false
is_last Birth n = false
is_last Lock n = false
is_last Height n = false
is_last Left n = false
is_last Right n = false
is_last Value n = false

-- a load of a field: it is known from then on where the row is held. A stamp at its greatest count
-- is kept with the words for which the pass was refused a row
abbrev pub read : View → ℕ → Field → ℕ → View
read v r f n = record v {
  trail = record { steps = v.trail.steps + 1; reached = v.trail.reached ++ led_to v r f n };
  words = record v.words {
    refused = cond (is_last f n)
        (v.words.refused ++ fact r f n ∷ []) v.words.refused;
    knows = cond (nat_lt 0 (times r v.holds))
        (fact r f n ∷ v.words.knows) v.words.knows;
  };
  noted = record v.noted { worn = v.noted.worn || is_last f n };
}

-- a word was stored in a row of the pass that isn't linked
abbrev pub own_word_stored : View → ℕ → Field → ℕ → View
own_word_stored v r f n = record v {
  trail = record v.trail { steps = v.trail.steps + 1 };
  fresh = record v.fresh { wrote = fact r f n ∷ forgotten v.fresh.wrote r f };
}

abbrev pub word_loaded : Step (Unit {0}) → Sat → ℕ → Sat → Type 0
word_loaded st m r n = (row : ℕ) (field : Field) → st.word ≡ word_at row field
    → Has m n (read m.0 row field r) × ((x : ℕ) → IsKnown m.0.words.knows row field x → r ≡ x)
    × ((c : ℕ) → Among c (led_to m.0 row field r) → c ≤ m.0.rows)

abbrev pub stored_own : ℕ → Field → Step (Unit {0}) → Sat → ℕ → Sat → Type 0
stored_own row field st m r n = Has m n (own_word_stored m.0 row field st.first)
