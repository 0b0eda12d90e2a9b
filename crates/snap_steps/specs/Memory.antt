-- The words of a table as a header and a list of rows.
use Rattle.std.specs.Prelude.{ℕ, List, [], ◌∷◌, slice_index_or}
use Rattle.snap_stamp.specs.declared.layout.Field.{Field}
use Rattle.snap_stamp.specs.declared.layout.Field.TheVariants.{Key, Birth, Stamp, Lock, Height, Left, Right, Value}

pub record Row : Type 0 where
  pub key : ℕ
  pub birth : ℕ
  pub stamp : ℕ
  pub lock : ℕ
  pub height : ℕ
  pub left : ℕ
  pub right : ℕ
  pub value : ℕ

pub record Memory : Type 0 where
  pub next : ℕ
  pub gate : ℕ
  pub left : ℕ
  pub done : ℕ
  pub epoch : ℕ
  pub rows : List Row

-- where the words of the header stand
abbrev pub next_at : ℕ
next_at = 0

abbrev pub gate_at : ℕ
gate_at = 1

abbrev pub left_at : ℕ
left_at = 2

abbrev pub done_at : ℕ
done_at = 3

abbrev pub epoch_at : ℕ
epoch_at = 4

abbrev pub words_of_rows : List Row → List ℕ
words_of_rows [] = []
words_of_rows (r ∷ rs) =
    r.key ∷ r.birth ∷ r.stamp ∷ r.lock ∷ r.height ∷ r.left ∷ r.right ∷ r.value ∷ words_of_rows rs

abbrev pub memory_words : Memory → List ℕ
memory_words m = m.next ∷ m.gate ∷ m.left ∷ m.done ∷ m.epoch ∷ 0 ∷ 0 ∷ 0 ∷ words_of_rows m.rows

abbrev pub field : Field → Row → ℕ
field Key r = r.key
field Birth r = r.birth
field Stamp r = r.stamp
field Lock r = r.lock
field Height r = r.height
field Left r = r.left
field Right r = r.right
field Value r = r.value

abbrev pub with_field : Field → ℕ → Row → Row
with_field Key n r = record r { key = n }
with_field Birth n r = record r { birth = n }
with_field Stamp n r = record r { stamp = n }
with_field Lock n r = record r { lock = n }
with_field Height n r = record r { height = n }
with_field Left n r = record r { left = n }
with_field Right n r = record r { right = n }
with_field Value n r = record r { value = n }

abbrev pub empty_row : Row
empty_row =
    record { key = 0; birth = 0; stamp = 0; lock = 0; height = 0; left = 0; right = 0; value = 0 }

abbrev pub row : List Row → ℕ → Row
row rows r = slice_index_or rows r empty_row
