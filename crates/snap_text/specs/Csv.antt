-- How this crate uses `csv`.
use Rattle.std.specs.Prelude.{◌≡◌, ◌<◌, ◌++◌, ℕ, List, [], ◌∷◌, Option, Some, None, Result, Ok, Err, true, false}
use Rattle.std.specs.Borrow.{Bor}
use Rattle.csv.specs.Reading.{Reached, Ready, default_config, is_flexible, owned_rows_left, owned_rows_reader, reader_config, reader_state, reader_trim, source_of}
use Rattle.csv.specs.Writing.{default_writer, fields_written, has_written, writer_setup}
use Rattle.csv.specs.Records.{fields_of}
use Rattle.csv.specs.declared.error.Error.{Error}
use Rattle.csv.specs.declared.error.ErrorKind.{ErrorKind}
use Rattle.csv.specs.declared.error.ErrorKind.TheVariants as kind
use Rattle.csv.specs.declared.iter.ByteRecordsIntoIter.{ByteRecordsIntoIter}
use Rattle.csv.specs.declared.parser.State.TheVariants as state
use Rattle.csv.specs.declared.reader.Trim.TheVariants as trim
use Rattle.csv.specs.declared.record.ByteRecord.{ByteRecord}
use Rattle.csv.specs.declared.writer.Writer.{Writer}
use Rattle.snap_text.specs.declared.fault.PairsFault.{PairsFault}
use Rattle.snap_text.specs.declared.fault.PairsFault.TheVariants as fault
use Rattle.snap_text.specs.Loads.{Fields, is_header, pair_of}
use Rattle.snap_text.specs.Numbers.{FitsValue}

-- the writer has the crate's defaults, and no field of a row is open
abbrev pub IsBetweenRows : {W : Type 0} → Writer W → Type 0
IsBetweenRows writer = (fields_written writer ≡ 0)
    × (has_written writer ≡ false)
    × (writer_setup writer ≡ default_writer)

-- what a read of bytes may fail of: memory, or the reader underneath
abbrev pub IsOfMemory : ErrorKind → Type 0
IsOfMemory kind.OutOfMemory = Unit {0}
IsOfMemory (kind.Io error) = Unit {0}
IsOfMemory _ = ⊥

-- the first rows of a text were read, of any number of fields each, and `bytes` are left
pub record IsReading (text : List ℕ) (rows : List Fields)
    (reader : ByteRecordsIntoIter (Bor (List ℕ))) : Type 0 where
  pub goes_on : 0 < owned_rows_left reader
  pub is_ready : Ready (owned_rows_reader reader)
  pub config : reader_config (owned_rows_reader reader) ≡ default_config
  pub keeps_blanks : reader_trim (owned_rows_reader reader) ≡ trim.None
  pub flexible : is_flexible (owned_rows_reader reader) ≡ true
  pub bytes : List ℕ
  pub left : source_of (λ slice. Some slice.now) (owned_rows_reader reader) ≡ Some bytes
  pub reached : Reached default_config state.StartRecord text rows
      (reader_state (owned_rows_reader reader)) bytes

-- the header was read, and nothing below it
pub record IsBelowHeader (text : List ℕ)
    (reader : ByteRecordsIntoIter (Bor (List ℕ))) : Type 0 where
  pub header : Fields
  pub is_first : is_header header ≡ true
  pub reading : IsReading text (header ∷ []) reader

-- the first record is the header
abbrev pub IsHeader : Option (Result ByteRecord Error) → Type 0
IsHeader (Some (Ok row)) = is_header (fields_of row) ≡ true
IsHeader _ = ⊥

-- the first record is another one, or there is none
abbrev pub IsNoHeader : Option (Result ByteRecord Error) → PairsFault → Type 0
IsNoHeader None why = why ≡ fault.Record 1
IsNoHeader (Some (Ok row)) why = (is_header (fields_of row) ≡ false) × (why ≡ fault.Record 1)
IsNoHeader (Some (Err error)) why = ⊥

-- the pair of the record was added behind the others
abbrev pub AddsRow : Result ByteRecord Error → List (ℕ × ℕ) → List (ℕ × ℕ) → Type 0
AddsRow (Ok row) old new = (pair : ℕ × ℕ)
    × (pair_of (fields_of row) ≡ Some pair)
    × FitsValue pair.1
    × (new ≡ old ++ pair ∷ [])
AddsRow (Err error) old new = ⊥

-- the record, which has this number, is no pair
abbrev pub IsNoPair : Result ByteRecord Error → ℕ → PairsFault → Type 0
IsNoPair (Ok row) number why = (pair_of (fields_of row) ≡ None) × (why ≡ fault.Record number)
IsNoPair (Err error) number why = ⊥
