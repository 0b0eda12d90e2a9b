-- What a reader of lines answers, where memory may be wanting.
use Rattle.std.specs.Prelude.{◌≡◌, ℕ, Result, Ok, Err}
use Rattle.snap_text.specs.declared.fault.LineKind.{LineKind}
use Rattle.snap_text.specs.declared.fault.ScriptFault.{ScriptFault}
use Rattle.snap_text.specs.declared.fault.ScriptFault.TheVariants as fault
use Rattle.snap_text.specs.declared.refusal.Refusal.{Refusal}
use Rattle.snap_text.specs.declared.refusal.Refusal.TheVariants.{Line, Memory}
use Rattle.snap_text.specs.Clones.{Slots}

-- the answer, with the clones that are live after it, is what the language says, unless memory was
-- wanting
abbrev pub AnswersLine : {X : Type 0} → Result (X × Slots) LineKind → Result X Refusal → Slots
    → Type 0
AnswersLine says (Ok x) later = says ≡ Ok (x, later)
AnswersLine says (Err (Line kind)) later = says ≡ Err kind
AnswersLine says (Err Memory) later = Unit {0}

-- the fault of a script whose line of this number is refused so
abbrev pub fault_of_line : ℕ → Refusal → ScriptFault
fault_of_line line (Line kind) = fault.Line line kind
fault_of_line line Memory = fault.Memory
