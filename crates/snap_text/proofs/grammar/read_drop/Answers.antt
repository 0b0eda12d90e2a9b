use Rattle.std.proofs.Common.{refl}
use Rattle.snap_text.proofs.grammar.read_drop.Goals as goal

pub returns-in_default : goal.returns-in_default
returns-in_default c =
    let one = c.in_ok-one.ensures in
    let name = c.in_ok-name.ensures in
    let bytes = c.as_bytes.ensures.value in
    let none = rw bytes at c.in_default.ensures.slot in
    rw (one, name, ← none) refl
