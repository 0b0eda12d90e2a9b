-- How a number is read, digit by digit.
use Rattle.std.proofs.Common.{inl, inr, ◌≡◌, ◌&&◌, ◌+◌, ◌-◌, ◌*◌, ◌^◌, ◌<◌, ◌≤◌, ℕ, Bool, true, false, List, Some, None, length, take, get_or, refl, arith, nat_lt, lit<}
use Rattle.std.specs.Prelude.{nat_le}
use Rattle.std.specs.Int.{IsInRange}
use Rattle.std.proofs.lemmas.Bool.{cases_Bool, le-leb, leb-true}
use Rattle.std.proofs.lemmas.List.{take_all}
use Rattle.std.proofs.lemmas.Int.Digits.{digits_more, digits_value_more}
use Rattle.std.proofs.lemmas.Str.{digit_value_digit}
use Rattle.std.proofs.lemmas.Str.Parse.{IsNumeralModel, digit_at, digits_value-take-le, numerals_by_value, tells_all_ascii_digits}
use Rattle.std.specs.Char.{digit_value}
use Rattle.std.specs.Str.{all_ascii_digits}
use Rattle.std.specs.Str.Parse.{AllDigits, digits_value}
use Rattle.snap_text.specs.Numbers.{is_number, number_of}

own : IsNumeralModel (λ ds. all_ascii_digits ds ≡ true) (digits_value 10)
own = numerals_by_value _ tells_all_ascii_digits

both : (a b c : Bool) → (a && (b && c)) ≡ true → (a ≡ true) × (b ≡ true) × (c ≡ true)
both true true true e = (refl, refl, refl)
both true true false e = cc
both true false c e = cc
both false b c e = cc

-- what a number is
pub parts_of_number : (most : ℕ) (text : List ℕ) → is_number most text ≡ true → AllDigits 10 text × (digits_value 10 text ≤ most)
parts_of_number most text is =
    let parts = both (nat_lt 0 (length text)) (all_ascii_digits text) (nat_le (digits_value 10 text) most) is in
    (own.to text parts.1, leb-true _ _ parts.2)

-- a text that is no number
pub refuse : (most : ℕ) (text : List ℕ) → (AllDigits 10 text → digits_value 10 text ≤ most → ⊥) → None ≡ number_of most text
refuse most text bad = elim (cases_Bool (is_number most text)) [
  | inl is ↦ let parts = parts_of_number most text is in absurd (bad parts.0 parts.1)
  | inr other ↦ rw other refl
]

-- and one that is
pub accept : (most : ℕ) (text : List ℕ) → 0 < length text → AllDigits 10 text → digits_value 10 text ≤ most → Some (digits_value 10 text) ≡ number_of most text
accept most text some digits small = rw (le-leb _ _ some, own.from text digits, le-leb _ _ small) refl

-- the digits before a place
pub record IsSoFar (text : List ℕ) (i number : ℕ) : Type 0 where
  pub digits : AllDigits 10 (take i text)
  pub is : number ≡ digits_value 10 (take i text)
  pub small : number < 2 ^ 64

pub starts : (text : List ℕ) → IsSoFar text 0 0
starts text = record { digits = tt; is = refl; small = lit< tt }

pub goes : (text : List ℕ) (i number next : ℕ) → IsSoFar text i number → i < length text → digit_value (get_or text i 0) < 10 → IsInRange 48 57 (get_or text i 0)
    → next ≡ number * 10 + (get_or text i 0 - 48) → next < 2 ^ 64 → IsSoFar text (i + 1) next
goes text i number next h lt digit range e small = record {
  digits = digits_more 10 text i lt h.digits digit;
  is = let d = digit_value_digit (get_or text i 0) range in
      let m = digits_value_more 10 text i lt in
      let v = h.is in omega (arith, d, m, v, e);
  small = small;
}

-- a number that is too large at a place is too large
pub too_large : (text : List ℕ) (i number most : ℕ) → IsSoFar text i number → i < length text → IsInRange 48 57 (get_or text i 0)
    → most < number * 10 + (get_or text i 0 - 48) → None ≡ number_of most text
too_large text i number most h lt range over = refuse most text (λ digits small.
    let d = digit_value_digit (get_or text i 0) range in
    let m = digits_value_more 10 text i lt in
    let p = digits_value-take-le 10 text (i + 1) (omega arith) in
    let v = h.is in absurd (omega (arith, d, m, p, v, over, small, range)))

pub no_digit : (text : List ℕ) (i most : ℕ) → i < length text → (IsInRange 48 57 (get_or text i 0) → ⊥) → None ≡ number_of most text
no_digit text i most lt bad = refuse most text (λ digits small. bad (digit_at text i digits lt))

-- the whole text
pub whole : (text : List ℕ) (i number : ℕ) → length text ≤ i → IsSoFar text i number → AllDigits 10 text × (number ≡ digits_value 10 text) × (number < 2 ^ 64)
whole text i number end h =
    let all = take_all i text end in
    (rw all at h.digits, rw all at h.is, h.small)
