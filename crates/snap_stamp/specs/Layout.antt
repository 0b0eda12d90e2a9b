-- Where the words of a table stand: eight words of a header, and then eight words for each row,
-- from row 0.
use Rattle.std.specs.Prelude.{ℕ, ◌≡◌, ◌+◌, ◌*◌, ◌<◌, ◌≤◌}
use Rattle.snap_stamp.specs.declared.layout.Field.{Field}
use Rattle.snap_stamp.specs.declared.layout.Field.TheVariants.{Key, Birth, Stamp, Lock, Height, Left, Right, Value}

-- the place of a field among its row's words
abbrev pub place_of : Field → ℕ
place_of Key = 0
place_of Birth = 1
place_of Stamp = 2
place_of Lock = 3
place_of Height = 4
place_of Left = 5
place_of Right = 6
place_of Value = 7

-- the place of a row's field among the table's words
abbrev pub word_at : ℕ → Field → ℕ
word_at row field = 8 + 8 * row + place_of field

-- how many words a table has whose rows go from 0 to this number
abbrev pub words_of : ℕ → ℕ
words_of rows = 8 + 8 * (rows + 1)

-- no two fields share a word
abbrev pub FieldsDiffer : Type 0
FieldsDiffer = (r q : ℕ) (f g : Field) → word_at r f ≡ word_at q g → (r ≡ q) × (f ≡ g)

-- each field of each row stands behind the header and within the table
abbrev pub RowsFit : Type 0
RowsFit =
    (rows row : ℕ) (f : Field) → row ≤ rows → (8 ≤ word_at row f) × (word_at row f < words_of rows)
