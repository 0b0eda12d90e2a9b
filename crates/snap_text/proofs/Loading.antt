-- How a load file is read, record by record.
use Rattle.std.proofs.Common.{◌≡◌, ◌≤◌, ◌<◌, ◌+◌, ◌*◌, ◌++◌, ◌∙◌, ◌&&◌, ℕ, List, [], ◌∷◌, Bool, true, false, Option, Some, None, Result, Ok, Err, length, map, sym, ap, refl, inl, inr, cond, append_assoc, arith}
use Rattle.std.proofs.lemmas.List.Elements.{All-push}
use Rattle.std.specs.Prelude.{All, bytes_eq, codes}
use Rattle.std.proofs.lemmas.Bool.{false≢true, le-ltb, lt-ltb}
use Rattle.std.proofs.lemmas.Slice.Eq.{bytes_eq-Decides}
use Rattle.csv.specs.Reading.{FlexibleStep, Reached, RowStep, default_config, is_bom, owned_rows_left, owned_rows_reader, reader_state, strip_bom}
use Rattle.csv.specs.Records.{fields_of}
use Rattle.csv.specs.declared.error.Error.{Error}
use Rattle.csv.specs.declared.parser.State.{State}
use Rattle.csv.specs.declared.parser.State.TheVariants as st
use Rattle.csv.specs.declared.record.ByteRecord.{ByteRecord}
use Rattle.snap_text.specs.declared.fault.PairsFault.{PairsFault}
use Rattle.snap_text.specs.declared.fault.PairsFault.TheVariants as fault
use Rattle.snap_text.specs.Csv.{AddsRow, IsBelowHeader, IsHeader, IsNoHeader, IsNoPair, IsReading}
use Rattle.snap_text.specs.Loads.{Fields, both, is_header, load_of, most_load_bytes, most_pairs, pair_of, pairs_from, records_of, under_header}
use Rattle.snap_text.specs.Numbers.{FitsValue, greatest_key, number_of}
use Rattle.snap_text.proofs.Costs.{Begin, all_pay, first_records, size, sizes}
use Rattle.snap_text.proofs.Records.{Rows, known, no_more_row, one_more_row}

-- these records are the header and these pairs
pub record AreHeaderAndPairs (rows : List Fields) (pairs : List (ℕ × ℕ)) : Type 0 where
  pub header : Fields
  pub below : List Fields
  pub are : rows ≡ header ∷ below
  pub is_first : is_header header ≡ true
  pub same : map pair_of below ≡ map Some pairs

pub only_header : (header : Fields) → is_header header ≡ true → AreHeaderAndPairs (header ∷ []) []
only_header header is = record { header = header; below = []; are = refl; is_first = is; same = refl }

pub one_more : (rows : List Fields) (pairs : List (ℕ × ℕ)) (row : Fields) (pair : ℕ × ℕ) → AreHeaderAndPairs rows pairs → Some pair ≡ pair_of row
    → AreHeaderAndPairs (rows ++ row ∷ []) (pairs ++ pair ∷ [])
one_more rows pairs row pair h is = record {
  header = h.header;
  below = h.below ++ row ∷ [];
  are = rw h.are refl;
  is_first = h.is_first;
  same = pushed h.below pairs h.same;
}
  where
    pushed : (below : List Fields) (pairs : List (ℕ × ℕ)) → map pair_of below ≡ map Some pairs → map pair_of (below ++ row ∷ []) ≡ map Some (pairs ++ pair ∷ [])
    pushed [] [] e = λ i. sym is i ∷ []
    pushed [] (p ∷ pairs) e = absurd (cc e)
    pushed (b ∷ below) [] e = absurd (cc e)
    pushed (b ∷ below) (p ∷ pairs) e =
        let first : pair_of b ≡ Some p = cc e in
        let others : map pair_of below ≡ map Some pairs = cc e in
        λ i. first i ∷ pushed below pairs others i

-- what the records below the header mean
all_pairs : (n : ℕ) (below : List Fields) (pairs : List (ℕ × ℕ)) → map pair_of below ≡ map Some pairs → pairs_from n below ≡ Ok pairs
all_pairs n [] [] e = refl
all_pairs n [] (p ∷ pairs) e = absurd (cc e)
all_pairs n (b ∷ below) [] e = absurd (cc e)
all_pairs n (b ∷ below) (p ∷ pairs) e =
    let first : pair_of b ≡ Some p = cc e in
    let others : map pair_of below ≡ map Some pairs = cc e in
    rw (first, all_pairs (n + 1) below pairs others) refl

first_refused : (n number : ℕ) (below others : List Fields) (row : Fields) (pairs : List (ℕ × ℕ)) → map pair_of below ≡ map Some pairs → None ≡ pair_of row
    → n + length pairs ≡ number → pairs_from n (below ++ row ∷ others) ≡ Err (fault.Record number)
first_refused n number [] others row [] e none at = let same : n ≡ number = omega (arith, at) in rw (← none, same) refl
first_refused n number [] others row (p ∷ pairs) e none at = absurd (cc e)
first_refused n number (b ∷ below) others row [] e none at = absurd (cc e)
first_refused n number (b ∷ below) others row (p ∷ pairs) e none at =
    let first : pair_of b ≡ Some p = cc e in
    let same : map pair_of below ≡ map Some pairs = cc e in
    rw (first, first_refused (n + 1) number below others row pairs same none (omega (arith, at))) refl

-- a text that is not too long, by its records
pub too_long : (bytes : List ℕ) → most_load_bytes < length bytes → load_of bytes ≡ Err fault.TooLong
unfolding load_of
too_long bytes over = rw (lt-ltb most_load_bytes (length bytes) over) refl

pub not_too_long : (bytes : List ℕ) → length bytes ≤ most_load_bytes → load_of bytes ≡ under_header (records_of bytes)
unfolding load_of
not_too_long bytes few = rw (le-ltb most_load_bytes (length bytes) few) refl

no_header : (bytes : List ℕ) (first : Fields) → Begin (first ∷ []) (records_of bytes) → is_header first ≡ false → under_header (records_of bytes) ≡ Err (fault.Record 1)
no_header bytes first begin other = ap under_header begin.is ∙ rw other refl

pub refused : (bytes : List ℕ) (rows : List Fields) (pairs : List (ℕ × ℕ)) (row : Fields) (number : ℕ) → length bytes ≤ most_load_bytes
    → AreHeaderAndPairs rows pairs → Begin (rows ++ row ∷ []) (records_of bytes) → None ≡ pair_of row → number ≡ length pairs + 2
    → load_of bytes ≡ Err (fault.Record number)
refused bytes rows pairs row number few h begin none at =
    let after : records_of bytes ≡ h.header ∷ h.below ++ row ∷ begin.others = begin.is ∙ rw h.are (append_assoc (h.header ∷ h.below) (row ∷ []) begin.others) in
    let first = h.is_first in
    not_too_long bytes few ∙ ap under_header after
    ∙ rw first (first_refused 2 number h.below begin.others row pairs h.same none (omega (arith, at)))

pub accepted : (bytes : List ℕ) (rows : List Fields) (pairs : List (ℕ × ℕ)) → length bytes ≤ most_load_bytes → AreHeaderAndPairs rows pairs → records_of bytes ≡ rows
    → load_of bytes ≡ Ok pairs
accepted bytes rows pairs few h all =
    let first = h.is_first in
    not_too_long bytes few ∙ ap under_header (all ∙ h.are) ∙ rw first (all_pairs 2 h.below pairs h.same)

-- how many pairs a text can hold
length-strip_bom : (bytes : List ℕ) → length (strip_bom bytes) ≤ length bytes
unfolding strip_bom
length-strip_bom [] = omega arith
length-strip_bom (a ∷ []) = omega arith
length-strip_bom (a ∷ b ∷ []) = omega arith
length-strip_bom (a ∷ b ∷ c ∷ rest) = cut (is_bom a b c)
  where
    cut : (t : Bool) → length (cond t rest (a ∷ b ∷ c ∷ rest)) ≤ length (a ∷ b ∷ c ∷ rest)
    cut true = omega arith
    cut false = omega arith

header_size : (header : Fields) → is_header header ≡ true → size header ≡ 10
header_size [] is = absurd (false≢true is)
header_size (key ∷ []) is = absurd (false≢true is)
header_size (key ∷ value ∷ []) is =
    let same = both_true (bytes_eq key (codes "key")) (bytes_eq value (codes "value")) is in
    let key_is = (bytes_eq-Decides key (codes "key")).0 same.0 in
    let value_is = (bytes_eq-Decides value (codes "value")).0 same.1 in
    rw (key_is, value_is) refl
  where
    both_true : (a b : Bool) → (a && b) ≡ true → (a ≡ true) × (b ≡ true)
    both_true true true e = (refl, refl)
    both_true true false e = absurd (false≢true e)
    both_true false b e = absurd (false≢true e)
header_size (key ∷ value ∷ other ∷ fields) is = absurd (false≢true is)

pair_size : (row : Fields) (pair : ℕ × ℕ) → pair_of row ≡ Some pair → 4 ≤ size row
pair_size [] pair is = absurd (cc is)
pair_size (key ∷ []) pair is = absurd (cc is)
pair_size ([] ∷ value ∷ []) pair is = absurd (cc is)
pair_size ((k ∷ key) ∷ [] ∷ []) pair is = absurd (no_value (number_of greatest_key (k ∷ key)) is)
  where
    no_value : (key : Option ℕ) → both key None ≡ Some pair → ⊥
    no_value None e = cc e
    no_value (Some key) e = cc e
pair_size ((k ∷ key) ∷ (v ∷ value) ∷ []) pair is = omega arith
pair_size (key ∷ value ∷ other ∷ fields) pair is = absurd (cc is)

pairs_size : (below : List Fields) (pairs : List (ℕ × ℕ)) → map pair_of below ≡ map Some pairs → 4 * length pairs ≤ sizes below
pairs_size [] [] e = omega arith
pairs_size [] (p ∷ pairs) e = absurd (cc e)
pairs_size (b ∷ below) [] e = absurd (cc e)
pairs_size (b ∷ below) (p ∷ pairs) e =
    let first : pair_of b ≡ Some p = cc e in
    let others : map pair_of below ≡ map Some pairs = cc e in
    omega (arith, pair_size b p first, pairs_size below pairs others)

pub few_pairs : (bytes : List ℕ) (rows : List Fields) (pairs : List (ℕ × ℕ)) (s : State) (ys : List ℕ) → length bytes ≤ most_load_bytes → AreHeaderAndPairs rows pairs
    → Reached default_config st.StartRecord (strip_bom bytes) rows s ys → length pairs ≤ most_pairs
few_pairs bytes rows pairs s ys few h reached =
    let paid = all_pay default_config st.StartRecord (strip_bom bytes) rows s ys reached in
    let short = length-strip_bom bytes in
    let all : sizes rows ≡ size h.header + sizes h.below = ap sizes h.are in
    let header = header_size h.header h.is_first in
    let pair = pairs_size h.below pairs h.same in
    elim paid.paid [ inl cost ↦ omega (arith, cost, short, few, all, header, pair) | inr last ↦ omega (arith, last.2, short, few, all, header, pair) ]

-- a step of a reader
abbrev pub Steps : Rows → Rows → Option (Result ByteRecord Error) → Type 0
Steps a b row = RowStep known (owned_rows_reader a) (owned_rows_reader b) (owned_rows_left b) row
    × FlexibleStep (owned_rows_reader a) (owned_rows_reader b) row

-- the first step: the header is read, or its record is refused
pub header_read : (text : List ℕ) (a b : Rows) (first : Option (Result ByteRecord Error)) → IsReading text [] a → Steps a b first → IsHeader first → IsBelowHeader text b
header_read text a b None h steps is = absurd is
header_read text a b (Some (Err error)) h steps is = absurd is
header_read text a b (Some (Ok found)) h steps is =
    let read = steps.0 in
    record { header = fields_of found; is_first = is; reading = one_more_row text [] a b (fields_of found) h read.0 read.1 read.2 steps.1 }

pub header_refused : (bytes : List ℕ) (a b : Rows) (first : Option (Result ByteRecord Error)) (why : PairsFault)
    → IsReading (strip_bom bytes) [] a → Steps a b first → IsNoHeader first why → under_header (records_of bytes) ≡ Err why
header_refused bytes a b None why h steps is = ap under_header (no_more_row (strip_bom bytes) [] a b h steps.0) ∙ ap Err (sym is)
header_refused bytes a b (Some (Err error)) why h steps is = absurd is
header_refused bytes a b (Some (Ok found)) why h steps is =
    let fields = fields_of found in
    let read = steps.0 in
    let one = one_more_row (strip_bom bytes) [] a b fields h read.0 read.1 read.2 steps.1 in
    let begin = first_records default_config (strip_bom bytes) (fields ∷ []) (reader_state (owned_rows_reader b)) one.bytes one.reached in
    no_header bytes fields begin is.0 ∙ ap Err (sym is.1)

-- a step below the header: a record's pair is added, or the record is refused
abbrev pub AllFit : List (ℕ × ℕ) → Type 0
AllFit pairs = All (λ (pair : ℕ × ℕ). FitsValue pair.1) pairs

pub pair_added : (text : List ℕ) (rows : List Fields) (pairs new : List (ℕ × ℕ)) (a b : Rows) (row : Result ByteRecord Error)
    → IsReading text rows a → AreHeaderAndPairs rows pairs → AllFit pairs → Steps a b (Some row) → AddsRow row pairs new
    → (more : List Fields) × IsReading text more b × AreHeaderAndPairs more new × AllFit new
pair_added text rows pairs new a b (Err error) h are fit steps adds = absurd adds
pair_added text rows pairs new a b (Ok found) h are fit steps adds =
    let fields = fields_of found in
    let read = steps.0 in
    let (pair, is, fits, same) = adds in (
      rows ++ fields ∷ [],
      one_more_row text rows a b fields h read.0 read.1 read.2 steps.1,
      rw same (one_more rows pairs fields pair are (sym is)),
      rw same (All-push (λ (pair : ℕ × ℕ). FitsValue pair.1) pairs pair fit fits),
    )

pub pair_refused : (bytes : List ℕ) (rows : List Fields) (pairs : List (ℕ × ℕ)) (a b : Rows) (row : Result ByteRecord Error) (why : PairsFault)
    → length bytes ≤ most_load_bytes → IsReading (strip_bom bytes) rows a → AreHeaderAndPairs rows pairs → Steps a b (Some row) → IsNoPair row (length pairs + 2) why
    → load_of bytes ≡ Err why
pair_refused bytes rows pairs a b (Err error) why few h are steps is = absurd is
pair_refused bytes rows pairs a b (Ok found) why few h are steps is =
    let fields = fields_of found in
    let read = steps.0 in
    let one = one_more_row (strip_bom bytes) rows a b fields h read.0 read.1 read.2 steps.1 in
    let begin = first_records default_config (strip_bom bytes) (rows ++ fields ∷ []) (reader_state (owned_rows_reader b)) one.bytes one.reached in
    refused bytes rows pairs fields (length pairs + 2) few are begin (sym is.0) refl ∙ ap Err (sym is.1)
