use Rattle.std.proofs.Common.{◌≡◌, ◌∙◌, true, false, refl, sym}
use Rattle.std.specs.Prelude.{is_some}
use Rattle.snap_text.proofs.grammar.read_clone.Goals as goal

pub returns-then-is_some : goal.returns-then-is_some
returns-then-is_some c =
    let one = c.in_ok-one.ensures in
    let name = c.in_ok-name.ensures in
    let slot = c.slot_of.ensures.slot in
    let bytes = c.as_bytes.ensures.value in
    let live : is_some c.slot_of.result ≡ true = sym c.is_some.ensures ∙ c.if-is_some.true in
    let taken = rw (slot, bytes) at live in
    rw (one, name, taken) refl

pub returns-in_default : goal.returns-in_default
returns-in_default c =
    let one = c.in_ok-one.ensures in
    let name = c.in_ok-name.ensures in
    let slot = c.slot_of.ensures.slot in
    let bytes = c.as_bytes.ensures.value in
    let live : is_some c.slot_of.result ≡ false = sym c.is_some.ensures ∙ c.if-is_some.false in
    let not_taken = rw (slot, bytes) at live in
    let none = c.in_default.ensures.slot in
    rw (one, name, not_taken, ← none) refl

pub returns : goal.returns
returns c =
    let one = c.in_ok-one.ensures in
    let name = c.in_ok-name.ensures in
    let slot = c.slot_of.ensures.slot in
    let bytes = c.as_bytes.ensures.value in
    let live : is_some c.slot_of.result ≡ false = sym c.is_some.ensures ∙ c.if-is_some.false in
    let not_taken = rw (slot, bytes) at live in
    let free = c.in-Some.ensures.slot in
    let set = c.set.ensures in
    let new = c.in_ok-new.ensures in
    let same = c.as_bytes-2.ensures.value in
    rw (one, name, not_taken, ← free, set, new, same) refl
