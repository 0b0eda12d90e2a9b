use Rattle.std.proofs.Common.{◌∙◌, sym}
use Rattle.csv.specs.Records.{fields_of}
use Rattle.snap_text.proofs.Fields.{no_first, no_second, two}
use Rattle.snap_text.proofs.load.two_fields.Goals as goal

pub returns-in_err-get : goal.returns-in_err-get
returns-in_err-get c = rw c.from_residual.ensures (no_first (fields_of c.args.row.now) c.in_err-get.ensures.value)

pub returns-in_err-get-2 : goal.returns-in_err-get-2
returns-in_err-get-2 c = rw c.from_residual-in_err-get-2.ensures (no_second (fields_of c.args.row.now) c.in_err-get-2.ensures.value)

pub returns : goal.returns
returns c = two (fields_of c.args.row.now) _ _ (sym c.len.ensures ∙ c.if-len-ne2.false) c.in_ok-get.ensures.value c.in_ok-get-2.ensures.value
