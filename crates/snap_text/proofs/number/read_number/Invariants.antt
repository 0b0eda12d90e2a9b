use Rattle.snap_text.proofs.Digits.{IsSoFar}
use Rattle.snap_text.proofs.number.read_number.Given as goal

abbrev pub invariant-loop-digit : goal.invariant-loop-digit
invariant-loop-digit l = IsSoFar l.fn.text l.digit-index l.number
