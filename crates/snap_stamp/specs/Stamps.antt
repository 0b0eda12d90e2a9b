-- A row's stamp as a number: four times its count, and its marks in the last two bits. So a stamp
-- only grows as its row goes through its life: a count, the same count shrinking, the next count,
-- and at last unlinked.
use Rattle.std.specs.Prelude.{ℕ, ◌≡◌, ◌+◌, ◌*◌, ◌/◌, ◌%◌, ◌==◌, Bool, if◌then◌else◌}

-- how many rotations have lowered the row
abbrev pub count_of : ℕ → ℕ
count_of w = w / 4

-- the greatest count that a word can have
abbrev pub last_count : ℕ
last_count = 4611686018427387903

-- a rotation is lowering the row
abbrev pub IsShrinking : ℕ → Type 0
IsShrinking w = w / 2 % 2 ≡ 1

-- the row was taken out of its tree
abbrev pub IsUnlinked : ℕ → Type 0
IsUnlinked w = w % 2 ≡ 1

-- the first of the two alone, as while a rotation lowers a row of the tree
abbrev pub IsLowering : ℕ → Type 0
IsLowering w = w % 4 ≡ 2

-- neither of the two
abbrev pub IsUnmarked : ℕ → Type 0
IsUnmarked w = w % 4 ≡ 0

-- the word of a stamp with this count and these marks
abbrev pub stamp_of : ℕ → (shrinking unlinked : Bool) → ℕ
stamp_of count shrinking unlinked =
    4 * count + (if shrinking then 2 else 0) + (if unlinked then 1 else 0)

-- each word is the stamp of its parts
abbrev pub HaveParts : Type 0
HaveParts = (w : ℕ) → w ≡ stamp_of (count_of w) (w / 2 % 2 == 1) (w % 2 == 1)
