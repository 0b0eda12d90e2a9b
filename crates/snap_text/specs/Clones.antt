-- The live clones of a script: each of its slots is free or has the name of its clone.
use Rattle.std.specs.Prelude.{ℕ, Bool, false, List, Option, Some, None, bytes_eq, is_none, position, replicate, slice_set}

abbrev pub Slots : Type 0
Slots = List (Option (List ℕ))

-- how many clones of a script may live at once
abbrev pub most_clones : ℕ
most_clones = 64

-- the slots of a script that begins
unfoldable pub all_free : Slots
all_free = replicate most_clones None

-- the clone in a slot has this name
abbrev pub has_name : List ℕ → Option (List ℕ) → Bool
has_name name None = false
has_name name (Some other) = bytes_eq other name

-- the slot of the live clone of a name
abbrev pub slot_of : Slots → List ℕ → Option ℕ
slot_of slots name = position (has_name name) slots

-- the lowest free slot
abbrev pub free_slot : Slots → Option ℕ
free_slot slots = position is_none slots

-- the slots after a clone was made, and after one was given up
abbrev pub with_clone : Slots → ℕ → List ℕ → Slots
with_clone slots slot name = slice_set slots slot (Some name)

abbrev pub without_clone : Slots → ℕ → Slots
without_clone slots slot = slice_set slots slot None
