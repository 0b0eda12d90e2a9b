use Rattle.std.proofs.Common.{◌∙◌, sym}
use Rattle.snap_text.proofs.Rows.{header_row, is_not_numeric, on_ok}
use Rattle.snap_text.proofs.export.write_header.Goals as goal

pub returns-clause-text : goal.returns-clause-text
returns-clause-text g c =
    let text = on_ok _ _ (sym c.is_err.ensures.value ∙ c.if-is_err.false) c.write_fields.ensures.bytes
    c.requires.0 c.requires.1 (is_not_numeric _ c.requires.2) in
    rw (c.requires.2, c.as_slice.ensures, c.as_slice-2.ensures, header_row) at text
