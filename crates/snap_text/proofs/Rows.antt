-- A row of digits needs no quotes.
use Rattle.std.proofs.Common.{◌≡◌, ◌++◌, ◌+◌, ◌<◌, ◌^◌, ◌∷◌, [], ℕ, List, length, refl, sym, false, arith}
use Rattle.std.proofs.lemmas.Str.Parse.{digit_from_value}
use Rattle.std.proofs.lemmas.Fmt.{decimal_is_IsNumeral}
use Rattle.std.specs.Fmt.{decimal}
use Rattle.std.specs.Char.{digit_value}
use Rattle.std.specs.List.{list_any}
use Rattle.std.specs.Str.Parse.{AllDigits}
use Rattle.std.proofs.lemmas.Bool.{ne_eqb}
use Rattle.csv.specs.Writing.{default_writer, fields_text, is_blank, needs_byte, row_text}
use Rattle.std.proofs.Common.{Result, Ok, Err, OnOk, true≢false, ◌≢◌, append_assoc, take, get_or}
use Rattle.std.specs.Result.{is_err}
use Rattle.std.proofs.lemmas.List.{append-nil, take_more}
use Rattle.csv.specs.declared.writer.WriterBuilder.{WriterBuilder}
use Rattle.csv.specs.declared.writer.QuoteStyle.TheVariants as style
use Rattle.snap_text.specs.Tables.{header_line, pair_line, pair_lines}

-- a digit is no mark
digit_is_plain : (c : ℕ) → digit_value c < 10 → needs_byte default_writer c ≡ false
digit_is_plain c d =
    let r = digit_from_value c d in
    let comma = ne_eqb c 44 (λ e. absurd (omega (arith, r, e))) in
    let quote = ne_eqb c 34 (λ e. absurd (omega (arith, r, e))) in
    let cr = ne_eqb c 13 (λ e. absurd (omega (arith, r, e))) in
    let lf = ne_eqb c 10 (λ e. absurd (omega (arith, r, e))) in
    rw (comma, quote, cr, lf) refl

-- nor is any of a run of digits
digits_are_plain : (ds : List ℕ) → AllDigits 10 ds → list_any (needs_byte default_writer) ds ≡ false
digits_are_plain [] p = refl
digits_are_plain (d ∷ ds) p = rw (digit_is_plain d p.0, digits_are_plain ds p.1) refl

decimal_is_plain : (n : ℕ) → n < 2 ^ 64 → list_any (needs_byte default_writer) (decimal n) ≡ false
decimal_is_plain n small = digits_are_plain (decimal n) (decimal_is_IsNumeral n small).0.1

lines_append : (ps qs : List (ℕ × ℕ)) → pair_lines (ps ++ qs) ≡ pair_lines ps ++ pair_lines qs
unfolding pair_lines
lines_append [] qs = refl
lines_append (p ∷ ps) qs = rw (lines_append ps qs) (sym (append_assoc (pair_line p.0 p.1) (pair_lines ps) (pair_lines qs)))

-- the row of a pair
pub pair_row : (key value : ℕ) → key < 2 ^ 64 → value < 2 ^ 64 → row_text default_writer (decimal key ∷ decimal value ∷ []) ≡ pair_line key value
unfolding fields_text is_blank
pair_row key value k v =
    rw (decimal_is_plain key k, decimal_is_plain value v, append-nil (decimal value))
    (append_assoc (decimal key) (44 ∷ decimal value) (10 ∷ []))

-- what a call says at `Ok`, where it gave no error
pub on_ok : {T E : Type 0} (r : Result T E) (P : Type 0) → is_err r ≡ false → OnOk r P → P
on_ok (Ok x) P e h = h
on_ok (Err x) P e h = absurd (true≢false e)

-- the writer's style is one whose text is known
pub is_not_numeric : (w : WriterBuilder) → w ≡ default_writer → w.style ≢ style.NonNumeric
is_not_numeric w e = rw e (λ x. cc x)

-- one more line
pub lines_more : (ps : List (ℕ × ℕ)) (i : ℕ) (d : ℕ × ℕ) → i < length ps → pair_lines (take (i + 1) ps) ≡ pair_lines (take i ps) ++ pair_line (get_or ps i d).0 (get_or ps i d).1
unfolding pair_lines
lines_more ps i d lt =
    rw (take_more ps i d lt, lines_append (take i ps) (get_or ps i d ∷ []), append-nil (pair_line (get_or ps i d).0 (get_or ps i d).1)) refl

pub header_row : row_text default_writer ((107 ∷ 101 ∷ 121 ∷ []) ∷ (118 ∷ 97 ∷ 108 ∷ 117 ∷ 101 ∷ []) ∷ []) ≡ header_line
unfolding fields_text is_blank
header_row = refl
