-- Commands by what they go to.
use Rattle.std.specs.Prelude.{◌≡◌, ℕ}
use Rattle.snap_prelude.specs.{Command}

-- to a table
abbrev pub IsOnTable : Command → Type 0
IsOnTable (Command.Table name) = Unit {0}
IsOnTable (Command.Put key value) = Unit {0}
IsOnTable (Command.Remove key) = Unit {0}
IsOnTable (Command.Get key) = Unit {0}
IsOnTable (Command.Load file) = Unit {0}
IsOnTable _ = ⊥

-- to a slot that it fills or empties, or to the clone and its table
abbrev pub IsOnSlot : Command → Type 0
IsOnSlot (Command.Snap slot name) = Unit {0}
IsOnSlot (Command.Forget slot name) = Unit {0}
IsOnSlot (Command.Depth slot) = Unit {0}
IsOnSlot _ = ⊥

-- to the clone in this slot, which answers it and stays
abbrev pub Asks : ℕ → Command → Type 0
Asks n (Command.See slot key) = slot ≡ n
Asks n (Command.First slot) = slot ≡ n
Asks n (Command.Last slot) = slot ≡ n
Asks n (Command.Floor slot key) = slot ≡ n
Asks n (Command.Lower slot key) = slot ≡ n
Asks n (Command.Ceiling slot key) = slot ≡ n
Asks n (Command.Higher slot key) = slot ≡ n
Asks n (Command.Count slot lo hi) = slot ≡ n
Asks n _ = ⊥
