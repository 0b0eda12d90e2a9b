use Rattle.std.proofs.Common.{◌∙◌, ◌∷◌, [], Some, rules, inl, inr}
use Rattle.std.proofs.lemmas.Result.{err_from_is_err_and}
use Rattle.csv.specs.Reading.{owned_rows_reader, reader_state, strip_bom}
use Rattle.snap_text.proofs.Loading.{accepted, few_pairs, not_too_long, only_header, pair_added, pair_refused, too_long}
use Rattle.snap_text.proofs.Records.{fails_alone_of_memory, no_more_row}
use Rattle.snap_text.proofs.load.read_pairs.Goals as goal

pub returns-then-bytes-gt-MOST_LOAD_BYTES-clause-refused :
    goal.returns-then-bytes-gt-MOST_LOAD_BYTES-clause-refused
returns-then-bytes-gt-MOST_LOAD_BYTES-clause-refused c = inr (too_long c.args.bytes.now c.if-bytes-gt-MOST_LOAD_BYTES.true)

pub returns-in_err-rows-clause-refused : goal.returns-in_err-rows-clause-refused
returns-in_err-rows-clause-refused c =
    let p = err_from_is_err_and c.from_residual.result c.from_residual.ensures.1 in
    let whole = not_too_long c.args.bytes.now c.if-bytes-gt-MOST_LOAD_BYTES.false in
    rw (p.1, p.2) (elim c.in_err-rows.ensures.refused [ inl memory ↦ inl memory | inr is ↦ inr (whole ∙ is) ])

pub loop-row-init : goal.loop-row-init
loop-row-init c =
    let below = c.in_ok-rows.ensures.below in
    record {
      rows = below.header ∷ [];
      reading = rw c.into_iter-row-iterator.ensures.into_iter_gives below.reading;
      pairs = rw c.new-pairs.ensures (only_header below.header below.is_first);
      in_range = search rules;
    }

pub add_pair-requires-clause-few : goal.add_pair-requires-clause-few
add_pair-requires-clause-few c =
    let so_far = c.loop-row.invariant in
    few_pairs c.args.bytes.now so_far.rows c.loop-row.pairs (reader_state (owned_rows_reader c.loop-row.row-iterator)) so_far.reading.bytes c.if-bytes-gt-MOST_LOAD_BYTES.false so_far.pairs so_far.reading.reached

pub add_pair-requires-clause-memory : goal.add_pair-requires-clause-memory
add_pair-requires-clause-memory c =
    let r = c.loop-row.invariant.reading in
    let step = c.in-Some.ensures.steps r.goes_on r.keeps_blanks in
    fails_alone_of_memory (strip_bom c.args.bytes.now) c.loop-row.invariant.rows c.loop-row.row-iterator c.next.new.self (Some c.in-Some.row) r (step.0 r.is_ready)

pub returns-in_err-add_pair-clause-refused : goal.returns-in_err-add_pair-clause-refused
returns-in_err-add_pair-clause-refused c =
    let so_far = c.loop-row.invariant in
    let r = so_far.reading in
    let step = c.in-Some.ensures.steps r.goes_on r.keeps_blanks in
    let p = err_from_is_err_and c.from_residual-in_err-add_pair.result c.from_residual-in_err-add_pair.ensures.1 in
    rw (p.1, p.2) (elim c.in_err-add_pair.ensures.refused [
      | inl memory ↦ inl memory
      | inr is ↦ inr (pair_refused c.args.bytes.now so_far.rows c.loop-row.pairs c.loop-row.row-iterator c.next.new.self c.in-Some.row c.in_err-add_pair.field-0.0
          c.if-bytes-gt-MOST_LOAD_BYTES.false r so_far.pairs (step.0 r.is_ready, step.3) is)
    ])

pub loop-row-preserved : goal.loop-row-preserved
loop-row-preserved c =
    let so_far = c.loop-row.invariant in
    let r = so_far.reading in
    let step = c.in-Some.ensures.steps r.goes_on r.keeps_blanks in
    let read = pair_added (strip_bom c.args.bytes.now) so_far.rows c.loop-row.pairs c.add_pair.new.pairs c.loop-row.row-iterator c.next.new.self c.in-Some.row
    r so_far.pairs so_far.in_range (step.0 r.is_ready, step.3) c.in_ok-add_pair.ensures.added in
    record { rows = read.0; reading = read.1; pairs = read.2; in_range = read.3 }

pub returns-clause-ok : goal.returns-clause-ok
returns-clause-ok c =
    let so_far = c.loop-row.invariant in
    let r = so_far.reading in
    let step = c.in-None.ensures.steps r.goes_on r.keeps_blanks in
    accepted c.args.bytes.now so_far.rows c.loop-row.pairs c.if-bytes-gt-MOST_LOAD_BYTES.false so_far.pairs
    (no_more_row (strip_bom c.args.bytes.now) so_far.rows c.loop-row.row-iterator c.next.new.self r (step.0 r.is_ready))

pub returns-clause-few : goal.returns-clause-few
returns-clause-few c =
    let so_far = c.loop-row.invariant in
    few_pairs c.args.bytes.now so_far.rows c.loop-row.pairs (reader_state (owned_rows_reader c.loop-row.row-iterator)) so_far.reading.bytes c.if-bytes-gt-MOST_LOAD_BYTES.false so_far.pairs so_far.reading.reached
