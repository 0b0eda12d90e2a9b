-- Load files: a header, and records of a key and a value, as `csv` reads them.
use Rattle.std.specs.Prelude.{ℕ, ◌+◌, ◌&&◌, nat_lt, Bool, false, List, [], ◌∷◌, Option, Some, None, Result, Ok, Err, codes, bytes_eq, length, if◌then◌else◌}
use Rattle.csv.specs.Reading.{default_config, records, strip_bom}
use Rattle.snap_text.specs.declared.fault.PairsFault.{PairsFault}
use Rattle.snap_text.specs.declared.fault.PairsFault.TheVariants as fault
use Rattle.snap_text.specs.Numbers.{greatest_key, greatest_value, number_of}

-- the fields of a record
abbrev pub Fields : Type 0
Fields = List (List ℕ)

abbrev pub is_header : Fields → Bool
is_header (key ∷ value ∷ []) = bytes_eq key (codes "key") && bytes_eq value (codes "value")
is_header _ = false

abbrev pub both : Option ℕ → Option ℕ → Option (ℕ × ℕ)
both (Some key) (Some value) = Some (key, value)
both _ _ = None

-- the pair of a record of two fields, a key and a value
abbrev pub pair_of : Fields → Option (ℕ × ℕ)
pair_of (key ∷ value ∷ []) = both (number_of greatest_key key) (number_of greatest_value value)
pair_of _ = None

-- what record n holds, and after it the pairs of the records below it
abbrev pub with_pair : ℕ → Option (ℕ × ℕ) → Result (List (ℕ × ℕ)) PairsFault
    → Result (List (ℕ × ℕ)) PairsFault
with_pair n None below = Err (fault.Record n)
with_pair n (Some pair) (Err other) = Err other
with_pair n (Some pair) (Ok below) = Ok (pair ∷ below)

-- the pairs of records that are counted from n, or the first of them that is refused
abbrev pub pairs_from : ℕ → List Fields → Result (List (ℕ × ℕ)) PairsFault
pairs_from n [] = Ok []
pairs_from n (fields ∷ below) = with_pair n (pair_of fields) (pairs_from (n + 1) below)

-- the first record is the header
abbrev pub under_header : List Fields → Result (List (ℕ × ℕ)) PairsFault
under_header [] = Err (fault.Record 1)
under_header (first ∷ below) = if is_header first then pairs_from 2 below else Err (fault.Record 1)

-- the most bytes of a load file, and the most pairs that so many bytes can hold
abbrev pub most_load_bytes : ℕ
most_load_bytes = 16_777_216

abbrev pub most_pairs : ℕ
most_pairs = 4_194_304

-- the records of a text, where a byte order mark at its start is no part of it
abbrev pub records_of : List ℕ → List Fields
records_of bytes = records default_config (strip_bom bytes)

-- the pairs of a load file, in their order
unfoldable pub load_of : List ℕ → Result (List (ℕ × ℕ)) PairsFault
load_of bytes = if nat_lt most_load_bytes (length bytes) then Err fault.TooLong
    else under_header (records_of bytes)
