-- What a pass knows of words: those of a row that it holds, and those of a row of its own.
use Rattle.std.specs.Prelude.{◌==◌, Bool, ℕ, ◌&&◌, cond, List, [], ◌∷◌, ◌≡◌, ◌⊎◌, ◌%◌}
use Rattle.snap_stamp.specs.Layout.{place_of}
use Rattle.snap_stamp.specs.declared.layout.Field.{Field}
use Rattle.snap_stamp.specs.declared.layout.Field.TheVariants.{Birth, Stamp}
use Rattle.snap_steps.specs.declared.view.ChildHeight.{ChildHeight}
use Rattle.snap_steps.specs.declared.view.Fact.{Fact}
use Rattle.snap_steps.specs.Counting.{Among}
use Rattle.snap_steps.specs.Memory.{Row, row, field}
use Rattle.snap_steps.specs.declared.view.View.{View}

abbrev pub same_field : Field → Field → Bool
same_field f g = place_of f == place_of g

abbrev pub fact : ℕ → Field → ℕ → Fact
fact r f n = record { row = r; field = f; word = n }

-- without what was known of this field of this row
abbrev pub forgotten : List Fact → ℕ → Field → List Fact
forgotten [] r f = []
forgotten (x ∷ xs) r f =
    cond ((x.row == r) && same_field x.field f) (forgotten xs r f) (x ∷ forgotten xs r f)

-- without what was known of this row
abbrev pub forgotten_row : List Fact → ℕ → List Fact
forgotten_row [] r = []
forgotten_row (x ∷ xs) r = cond (x.row == r) (forgotten_row xs r) (x ∷ forgotten_row xs r)

-- without what was known of the heights below this row
abbrev pub heights_forgotten : List ChildHeight → ℕ → List ChildHeight
heights_forgotten [] r = []
heights_forgotten (x ∷ xs) r =
    cond (x.row == r) (heights_forgotten xs r) (x ∷ heights_forgotten xs r)

-- the word that is known of this field of this row
abbrev pub word_in : List Fact → ℕ → Field → ℕ
word_in [] r f = 0
word_in (x ∷ xs) r f = cond ((x.row == r) && same_field x.field f) x.word (word_in xs r f)

abbrev pub IsKnown : List Fact → ℕ → Field → ℕ → Type 0
IsKnown [] r f x = ⊥
IsKnown (y ∷ ys) r f x = ((y.row ≡ r) × (y.field ≡ f) × (y.word ≡ x)) ⊎ IsKnown ys r f x

-- what is known of held rows is so
abbrev pub AreFacts : List Row → List ℕ → List Fact → Type 0
AreFacts rows holds [] = Unit {0}
AreFacts rows holds (x ∷ xs) =
    (field x.field (row rows x.row) ≡ x.word) × (Among x.row holds) × AreFacts rows holds xs

-- under its lock the row is known to be of this epoch and without the mark of the unlinked
pub record IsBorn (v : View) (r : ℕ) : Type 0 where
  pub birth : ℕ
  pub is_birth : IsKnown v.words.knows r Birth birth
  pub now : Among birth v.words.present
  pub stamp : ℕ
  pub is_stamp : IsKnown v.words.knows r Stamp stamp
  pub unmarked : stamp % 2 ≡ 0
