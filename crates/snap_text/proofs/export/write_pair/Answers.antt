use Rattle.std.proofs.Common.{◌∙◌, sym}
use Rattle.snap_text.proofs.Rows.{is_not_numeric, on_ok, pair_row}
use Rattle.snap_text.proofs.export.write_pair.Goals as goal

pub returns-clause-text : goal.returns-clause-text
returns-clause-text g c =
    let text = on_ok _ _ (sym c.is_err.ensures.value ∙ c.if-is_err.false) c.write_fields.ensures.bytes
    c.requires.0 c.requires.1 (is_not_numeric _ c.requires.2) in
    rw (c.requires.2, c.as_bytes.ensures.value ∙ c.format.ensures.text, c.as_bytes-2.ensures.value ∙ c.format-2.ensures.text, pair_row c.args.key c.args.value c.ranges.key.fits c.ranges.value.fits) at text
