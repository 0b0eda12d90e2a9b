use Rattle.std.proofs.Common.{◌+◌, ◌∙◌, sym}
use Rattle.snap_words.proofs.Outputs.{twice_further, twice_whole}
use Rattle.snap_words.proofs.checking.has_twice.Goals as goal

pub returns-then-is_among : goal.returns-then-is_among
returns-then-is_among c =
    let further = twice_further c.args.scripts.now c.loop-place.place _ c.as_bytes.result.now c.is_among.result c.loop-place-test.true c.as_bytes.ensures.value c.is_among.ensures c.loop-place.invariant in
    sym (twice_whole c.args.scripts.now (c.loop-place.place + 1) (further ∙ c.if-is_among.true))

pub loop-place-preserved : goal.loop-place-preserved
loop-place-preserved c =
    twice_further c.args.scripts.now c.loop-place.place _ c.as_bytes.result.now c.is_among.result c.loop-place-test.true c.as_bytes.ensures.value c.is_among.ensures c.loop-place.invariant
    ∙ c.if-is_among.false
