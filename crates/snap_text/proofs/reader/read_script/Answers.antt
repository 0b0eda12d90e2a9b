use Rattle.std.proofs.Common.{◌∙◌, inr, sym}
use Rattle.snap_text.proofs.Reading.{all_read, not_too_long, refused, too_long}
use Rattle.snap_text.proofs.Sound.{puts_in_range, uses_slots}
use Rattle.snap_text.proofs.reader.read_script.Goals as goal

pub returns-then-is_too_long-clause-refused : goal.returns-then-is_too_long-clause-refused
returns-then-is_too_long-clause-refused c = inr (too_long c.args.bytes.now (sym c.is_too_long.ensures ∙ c.if-is_too_long.true))

pub returns-in-Err-clause-refused : goal.returns-in-Err-clause-refused
returns-in-Err-clause-refused c =
    let whole = not_too_long c.args.bytes.now (sym c.is_too_long.ensures ∙ c.if-is_too_long.false) in
    let fault = c.in_line.ensures in
    rw (whole, fault) (refused c.args.bytes.now c.loop-text.script c.loop-text.number c.loop-text.clones c.read_line.new.clones c.loop-text.text-iterator c.in-Some.text.now c.next.new.self c.in-Err.refusal
    c.loop-text.invariant c.in-Some.ensures.steps c.in-Err.ensures)

pub returns-clause-ok : goal.returns-clause-ok
returns-clause-ok c =
    not_too_long c.args.bytes.now (sym c.is_too_long.ensures ∙ c.if-is_too_long.false)
    ∙ all_read c.args.bytes.now c.loop-text.script c.loop-text.number c.loop-text.clones c.loop-text.text-iterator c.loop-text.invariant c.in-None.ensures.steps.0

pub returns-clause-in_range : goal.returns-clause-in_range
returns-clause-in_range c = puts_in_range c.args.bytes.now c.loop-text.script (returns-clause-ok c)

pub returns-clause-uses : goal.returns-clause-uses
returns-clause-uses c = uses_slots c.args.bytes.now c.loop-text.script (returns-clause-ok c)
