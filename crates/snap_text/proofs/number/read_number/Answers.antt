use Rattle.std.proofs.Common.{rules, ◌∙◌, ap, arith, inl, inr, Some}
use Rattle.snap_text.specs.Numbers.{greatest_key}
use Rattle.snap_text.proofs.Digits.{accept, goes, no_digit, starts, too_large, whole}
use Rattle.snap_text.proofs.number.read_number.Goals as goal

pub loop-digit-init : goal.loop-digit-init
loop-digit-init c = starts c.args.text.now

pub returns-then-not-is_ascii_digit : goal.returns-then-not-is_ascii_digit
returns-then-not-is_ascii_digit c = no_digit c.args.text.now c.loop-digit.digit-index greatest_key (search rules)
    (λ r. elim c.if-not-is_ascii_digit.ensures.cases [ inl low ↦ absurd (omega (arith, low, r)) | inr high ↦ absurd (omega (arith, high, r)) ])

pub returns-in_err-number : goal.returns-in_err-number
returns-in_err-number c =
    let over = c.in_err-number.ensures in
    c.from_residual.ensures ∙ too_large c.args.text.now c.loop-digit.digit-index c.loop-digit.number greatest_key c.loop-digit.invariant
    (search rules) c.if-not-is_ascii_digit.ensures.cases (omega (arith, over))

pub loop-digit-preserved : goal.loop-digit-preserved
loop-digit-preserved c = goes c.args.text.now c.loop-digit.digit-index _ _ c.loop-digit.invariant (search rules)
    c.if-not-is_ascii_digit.ensures.bound c.if-not-is_ascii_digit.ensures.cases c.in_ok-number.ensures (search rules)

pub returns : goal.returns
returns c =
    let all = whole c.args.text.now c.loop-digit.digit-index c.loop-digit.number (search rules) c.loop-digit.invariant in
    let is = all.1 in
    let small = all.2 in
    ap Some is ∙ accept greatest_key c.args.text.now (search rules) all.0 (omega (arith, is, small))
