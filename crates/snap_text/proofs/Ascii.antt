-- Names are ASCII, so they are text.
use Rattle.std.proofs.Common.{◌≡◌, ℕ, zero, suc, ◌<◌, Bool, true, false, ◌&&◌, List, [], ◌∷◌, length, refl, sym, arith, lit<, true≢false, nat_le, ◌==◌, not, slice_index}
use Rattle.std.specs.List.{list_all}
use Rattle.std.specs.Str.{IsAscii, IsUtf8}
use Rattle.std.proofs.lemmas.Bool.Decides.{nat_tests}
use Rattle.std.proofs.lemmas.Str.{IsUtf8-from_ascii}
use Rattle.snap_text.specs.Names.{is_file, is_file_byte, is_name, is_name_byte}

left_of : (a b : Bool) → (a && b) ≡ true → a ≡ true
left_of true b e = refl
left_of false b e = e

right_of : (a b : Bool) → (a && b) ≡ true → b ≡ true
right_of true b e = e
right_of false b e = absurd (true≢false (sym e))

ascii_bytes : (p : ℕ → Bool) → ((b : ℕ) → p b ≡ true → b < 128) → (text : List ℕ) → list_all p text ≡ true → IsAscii text
ascii_bytes p small [] all i = lit< tt
ascii_bytes p small (b ∷ text) all zero = small b (left_of (p b) (list_all p text) all)
ascii_bytes p small (b ∷ text) all (suc i) = ascii_bytes p small text (right_of (p b) (list_all p text) all) i

name_byte : (b : ℕ) → is_name_byte b ≡ true → b < 128
name_byte b is = grind (arith, nat_tests, is)

file_byte : (b : ℕ) → is_file_byte b ≡ true → b < 128
file_byte b is = grind (arith, nat_tests, is)

pub name_is_text : (text : List ℕ) → is_name text ≡ true → IsUtf8 text
name_is_text text is =
    IsUtf8-from_ascii text (ascii_bytes is_name_byte name_byte text (right_of (nat_le 1 (length text) && nat_le (length text) 32) (list_all is_name_byte text) is))

pub file_is_text : (text : List ℕ) → is_file text ≡ true → IsUtf8 text
file_is_text text is =
    let bytes = left_of (nat_le 1 (length text) && nat_le (length text) 200 && list_all is_file_byte text) (not (slice_index text 0 == 45)) is in
    IsUtf8-from_ascii text (ascii_bytes is_file_byte file_byte text (right_of (nat_le 1 (length text) && nat_le (length text) 200) (list_all is_file_byte text) bytes))
