-- Loads of words that change no more. The birth of a row that was linked is one, and is at most the
-- epoch.
use Rattle.std.specs.Prelude.{◌≡◌, ℕ, ◌≤◌, [], ◌∷◌}
use Rattle.atomic_table.specs.Table.{Step}
use Rattle.snap_rule.specs.declared.reader.Point.{Point}
use Rattle.snap_rule.specs.declared.reader.Reading.TheVariants.{On}
use Rattle.snap_stamp.specs.Layout.{word_at}
use Rattle.snap_stamp.specs.declared.layout.Field.{Field}
use Rattle.snap_stamp.specs.declared.layout.Field.TheVariants.{Birth}
use Rattle.snap_steps.specs.Counting.{Among}
use Rattle.snap_steps.specs.Facts.{fact}
use Rattle.snap_steps.specs.Steps.Fields.{read}
use Rattle.snap_steps.specs.Steps.Header.{word_noted}
use Rattle.snap_steps.specs.Steps.Told.{Sat, Has}
use Rattle.snap_steps.specs.declared.view.View.{View}
use Rattle.snap_steps.specs.declared.view.WordNote.TheVariants as notes

-- a word is known for good
abbrev pub learnt : View → ℕ → Field → ℕ → View
learnt v r f x =
    let u : View = read v r f x in
    record u { words = record u.words { lasting = fact r f x ∷ v.words.lasting } }

abbrev pub born : View → ℕ → ℕ → View
born v r b = learnt v r Birth b

-- and noted, with the key on whose way the row is
abbrev pub birth_noted : View → ℕ → ℕ → ℕ → View
birth_noted v key r b =
    let u : View = word_noted (born v r b) (notes.Birth key b) in
    record u { way = record u.way { confirmed = [] } }

-- no later than the epoch that was loaded
abbrev pub IsPast : View → ℕ → Type 0
IsPast v b = (e : ℕ) → Among e v.words.present → b ≤ e

abbrev pub lasting_loaded : Step (Unit {0}) → Sat → ℕ → Sat → Type 0
lasting_loaded st m r n =
    (row : ℕ) (field : Field) → st.word ≡ word_at row field → Has m n (learnt m.0 row field r)

abbrev pub birth_loaded : Step (Unit {0}) → Sat → ℕ → Sat → Type 0
birth_loaded st m r n =
    (row : ℕ) → st.word ≡ word_at row Birth → Has m n (born m.0 row r) × IsPast m.0 r

abbrev pub way_birth_loaded : Step (Unit {0}) → Sat → ℕ → Sat → Type 0
way_birth_loaded st m r n = (row key : ℕ) (point : Point) → st.word ≡ word_at row Birth
    → m.0.way.reads ≡ On key point
    → Has m n (birth_noted m.0 key row r) × IsPast m.0 r × (m.0.way.confirmed ≡ row ∷ [])
