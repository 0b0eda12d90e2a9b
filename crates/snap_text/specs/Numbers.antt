-- Numbers as text: one or more ASCII digits, leading zeros accepted.
use Rattle.std.specs.Prelude.{◌&&◌, ◌+◌, ◌-◌, ◌<◌, ◌^◌, ℕ, Bool, List, Option, Some, None, length, nat_le, nat_lt, if◌then◌else◌}
use Rattle.std.specs.Str.{all_ascii_digits}
use Rattle.std.specs.Str.Parse.{digits_value}

-- the greatest key, and the greatest value
abbrev pub greatest_key : ℕ
greatest_key = 2 ^ 64 - 1

abbrev pub greatest_value : ℕ
greatest_value = 2 ^ 64 - 2

-- a map can hold the value: one more than it is a word, too
abbrev pub FitsValue : ℕ → Type 0
FitsValue value = value + 1 < 2 ^ 64

-- the text is a number of at most `most`
abbrev pub is_number : ℕ → List ℕ → Bool
is_number most text =
    nat_lt 0 (length text) && (all_ascii_digits text && nat_le (digits_value 10 text) most)

-- the number that the text writes, if it is at most `most`
abbrev pub number_of : ℕ → List ℕ → Option ℕ
number_of most text = if is_number most text then Some (digits_value 10 text) else None
