-- What one step of a reader does.
use Rattle.std.proofs.Common.{◌≡◌, ◌<◌, ◌++◌, ◌∙◌, ℕ, List, [], ◌∷◌, true, false, Option, Some, None, Result, Ok, Err, sym, inl, true≢false}
use Rattle.std.specs.Prelude.{IfErr, IfSome}
use Rattle.std.specs.Borrow.{Bor}
use Rattle.csv.specs.Reading.{ExplainsRead, ReadRecord, RowStep, default_config, error_kind, is_flexible, owned_rows_left, owned_rows_reader, records}
use Rattle.csv.specs.declared.error.Error.{Error}
use Rattle.csv.specs.declared.error.ErrorKind.{ErrorKind}
use Rattle.csv.specs.declared.error.ErrorKind.TheVariants as kind
use Rattle.csv.specs.declared.iter.ByteRecordsIntoIter.{ByteRecordsIntoIter}
use Rattle.csv.specs.declared.parser.State.TheVariants as state
use Rattle.csv.specs.declared.record.ByteRecord.{ByteRecord}
use Rattle.csv.proofs.ReadFacts.{rows-end, rows-more}
use Rattle.snap_text.specs.Csv.{IsOfMemory, IsReading}
use Rattle.snap_text.specs.Loads.{Fields}
use Rattle.snap_text.proofs.Costs.{all_records}

abbrev pub Rows : Type 0
Rows = ByteRecordsIntoIter (Bor (List ℕ))

abbrev pub known : Bor (List ℕ) → Option (List ℕ)
known slice = Some slice.now

-- a step that gives a record
pub one_more_row : (text : List ℕ) (rows : List Fields) (a b : Rows) (fields : Fields) → IsReading text rows a
    → ReadRecord known (owned_rows_reader a) (owned_rows_reader b) true fields → (owned_rows_reader b).first ≡ true → 0 < owned_rows_left b
    → is_flexible (owned_rows_reader b) ≡ is_flexible (owned_rows_reader a)
    → IsReading text (rows ++ fields ∷ []) b
one_more_row text rows a b fields h read first goes_on flexible =
    let m = rows-more known (owned_rows_reader a) (owned_rows_reader b) fields default_config state.StartRecord text h.bytes rows h.config h.left h.reached read in
    record {
      goes_on = goes_on;
      is_ready = inl first;
      config = read.2 ∙ h.config;
      keeps_blanks = read.3 ∙ h.keeps_blanks;
      flexible = flexible ∙ h.flexible;
      bytes = m.0;
      left = m.1;
      reached = m.2;
    }

-- a step at the end
pub no_more_row : (text : List ℕ) (rows : List Fields) (a b : Rows) → IsReading text rows a
    → ReadRecord known (owned_rows_reader a) (owned_rows_reader b) false [] → records default_config text ≡ rows
no_more_row text rows a b h read =
    let end = rows-end known (owned_rows_reader a) (owned_rows_reader b) [] default_config h.bytes h.config h.left read in
    all_records default_config text rows (owned_rows_reader a).state h.bytes h.reached end

-- a step that fails
pub fails_of_memory : (text : List ℕ) (rows : List Fields) (a b : Rows) (why : ErrorKind) → IsReading text rows a
    → ExplainsRead known (owned_rows_reader a) (owned_rows_reader b) false why → IsOfMemory why
fails_of_memory text rows a b kind.OutOfMemory h because = tt
fails_of_memory text rows a b (kind.Io error) h because = tt
fails_of_memory text rows a b (kind.UnequalLengths pos expected len) h because = absurd (true≢false (sym h.flexible ∙ because.0))
fails_of_memory text rows a b (kind.Utf8 pos err) h because = absurd (true≢false (sym because.0))
fails_of_memory text rows a b (kind.Serialize text') h because = because
fails_of_memory text rows a b (kind.Deserialize pos err) h because = because

pub fails_alone_of_memory : (text : List ℕ) (rows : List Fields) (a b : Rows) (row : Option (Result ByteRecord Error)) → IsReading text rows a
    → RowStep known (owned_rows_reader a) (owned_rows_reader b) (owned_rows_left b) row → IfSome row (λ found. IfErr found (λ error. IsOfMemory (error_kind error)))
fails_alone_of_memory text rows a b None h step = tt
fails_alone_of_memory text rows a b (Some (Ok found)) h step = tt
fails_alone_of_memory text rows a b (Some (Err error)) h step = fails_of_memory text rows a b (error_kind error) h step
