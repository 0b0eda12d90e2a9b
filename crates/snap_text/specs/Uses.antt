-- The slots that a script's commands use: a clone is made in a free slot, and every other command
-- on a clone is on a live one.
use Rattle.std.specs.Prelude.{◌≡◌, ℕ, List, [], ◌∷◌, Some, None, slice_get}
use Rattle.snap_model.specs.declared.command.Command.{Command}
use Rattle.snap_model.specs.declared.command.Command.TheVariants as command
use Rattle.snap_text.specs.declared.script.Line.{Line}
use Rattle.snap_text.specs.Clones.{Slots, with_clone, without_clone}

-- there is such a slot, and it is free
abbrev pub IsFreeSlot : Slots → ℕ → Type 0
IsFreeSlot slots slot = slice_get slots slot ≡ Some None

-- there is such a slot, and it has a clone
abbrev pub IsTakenSlot : Slots → ℕ → Type 0
IsTakenSlot slots slot = (name : List ℕ) × (slice_get slots slot ≡ Some (Some name))

-- the command uses a slot that it may use
abbrev pub UsesSlots : Slots → Command → Type 0
UsesSlots slots (command.Snap slot name) = IsFreeSlot slots slot
UsesSlots slots (command.Forget slot name) = IsTakenSlot slots slot
UsesSlots slots (command.See slot key) = IsTakenSlot slots slot
UsesSlots slots (command.First slot) = IsTakenSlot slots slot
UsesSlots slots (command.Last slot) = IsTakenSlot slots slot
UsesSlots slots (command.Floor slot key) = IsTakenSlot slots slot
UsesSlots slots (command.Lower slot key) = IsTakenSlot slots slot
UsesSlots slots (command.Ceiling slot key) = IsTakenSlot slots slot
UsesSlots slots (command.Higher slot key) = IsTakenSlot slots slot
UsesSlots slots (command.Count slot lo hi) = IsTakenSlot slots slot
UsesSlots slots (command.Depth slot) = IsTakenSlot slots slot
UsesSlots slots (command.Export slot lo hi file) = IsTakenSlot slots slot
UsesSlots slots _ = Unit {0}

-- the slots after a command
abbrev pub slots_after : Slots → Command → Slots
slots_after slots (command.Snap slot name) = with_clone slots slot name
slots_after slots (command.Forget slot name) = without_clone slots slot
slots_after slots _ = slots

-- each command of these lines does
abbrev pub AllUseSlots : Slots → List Line → Type 0
AllUseSlots slots [] = Unit {0}
AllUseSlots slots (line ∷ below) =
    UsesSlots slots line.command × AllUseSlots (slots_after slots line.command) below
