use Rattle.std.proofs.Common.{◌∙◌, inr, refl, sym}
use Rattle.csv.specs.Reading.{Reached, strip_bom}
use Rattle.snap_text.proofs.load.rows_of.Goals as goal

pub returns : goal.returns
unfolding Reached
returns c =
    let fr = c.from_reader.ensures in
    let rdr = c.into_byte_records.ensures.rdr in
    rw rdr (record {
      goes_on = c.into_byte_records.ensures.left;
      is_ready = inr (inr (rw (c.flexible.ensures, c.has_headers.ensures) at fr.has_headers, fr.headers));
      config = rw (c.flexible.ensures, c.has_headers.ensures) at fr.config ∙ c.new.ensures.config;
      keeps_blanks = rw (c.flexible.ensures, c.has_headers.ensures) at fr.trim ∙ c.new.ensures.trim;
      flexible = rw c.flexible.ensures at fr.flexible;
      bytes = strip_bom c.args.bytes.now;
      left = fr.source;
      reached = (sym fr.state, refl);
    })
