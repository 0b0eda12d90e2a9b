use Rattle.std.proofs.Common.{[], inl, inr}
use Rattle.std.proofs.lemmas.Result.{err_from_is_err_and}
use Rattle.csv.specs.Reading.{strip_bom}
use Rattle.snap_text.proofs.Loading.{header_read, header_refused}
use Rattle.snap_text.proofs.Records.{fails_alone_of_memory}
use Rattle.snap_text.proofs.load.rows_below_header.Goals as goal

pub check_header-requires : goal.check_header-requires
check_header-requires c =
    let r = c.rows_of-rows.ensures in
    let step = c.next-first.ensures.steps r.goes_on r.keeps_blanks in
    fails_alone_of_memory (strip_bom c.args.bytes.now) [] c.rows_of-rows.result c.next-first.new.self c.next-first.result r (step.0 r.is_ready)

pub returns-in_err-check_header-clause-refused : goal.returns-in_err-check_header-clause-refused
returns-in_err-check_header-clause-refused c =
    let r = c.rows_of-rows.ensures in
    let step = c.next-first.ensures.steps r.goes_on r.keeps_blanks in
    let p = err_from_is_err_and c.from_residual.result c.from_residual.ensures.1 in
    rw (p.1, p.2) (elim c.in_err-check_header.ensures.refused [
      | inl memory ↦ inl memory
      | inr is ↦ inr (header_refused c.args.bytes.now c.rows_of-rows.result c.next-first.new.self c.next-first.result c.in_err-check_header.field-0.0 r (step.0 r.is_ready, step.3) is)
    ])

pub returns-clause-below : goal.returns-clause-below
returns-clause-below c =
    let r = c.rows_of-rows.ensures in
    let step = c.next-first.ensures.steps r.goes_on r.keeps_blanks in
    header_read (strip_bom c.args.bytes.now) c.rows_of-rows.result c.next-first.new.self c.next-first.result r (step.0 r.is_ready, step.3) c.in_ok-check_header.ensures.header
