-- Names as text.
use Rattle.std.specs.Prelude.{◌==◌, ◌||◌, ◌&&◌, not, ℕ, Bool, List, length, nat_le, slice_index}
use Rattle.std.specs.Char.{is_ascii_alphanumeric}
use Rattle.std.specs.List.{list_all}

-- the byte is a letter, a digit or `_`
abbrev pub is_name_byte : ℕ → Bool
is_name_byte b = is_ascii_alphanumeric b || (b == 95)

-- the text is the name of a table or a clone: 1 to 32 such bytes
abbrev pub is_name : List ℕ → Bool
is_name text = nat_le 1 (length text) && nat_le (length text) 32 && list_all is_name_byte text

-- the byte is a letter, a digit, `_`, `.`, `-` or `/`
abbrev pub is_file_byte : ℕ → Bool
is_file_byte b = is_ascii_alphanumeric b || (b == 95) || (b == 46) || (b == 45) || (b == 47)

-- the text is a file name: 1 to 200 such bytes, the first of which is no `-`
abbrev pub is_file : List ℕ → Bool
is_file text =
    nat_le 1 (length text) && nat_le (length text) 200 && list_all is_file_byte text
    && not (slice_index text 0 == 45)
