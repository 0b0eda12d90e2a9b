-- Each kind of step evolves the table and keeps the parts of the rule that speak of no pass.
use Rattle.std.specs.Prelude.{ℕ, ◌≢◌}
use Rattle.snap_model.specs.declared.call.Entry.{Entry}
use Rattle.snap_stamp.specs.declared.side.Side.{Side}
use Rattle.snap_rule.specs.Evolves.{Evolves}
use Rattle.snap_rule.specs.Kinds.Clones.{MayLinkCopy, MayCut, copy_linked, cut}
use Rattle.snap_rule.specs.Kinds.Entries.{MayConfirmAbsent, MayLinkLeaf, MayStoreValue, absent_confirmed, leaf_linked, value_stored}
use Rattle.snap_rule.specs.Kinds.Rotation.{MayClearShrinking, MayLinkRaised, MayLinkLowered, MayLinkParent, MayMarkShrinking, lowered_linked, parent_linked, raised_linked, shrinking_cleared, shrinking_marked}
use Rattle.snap_rule.specs.Kinds.Unlinking.{MaySplice, MayMarkUnlinked, spliced, unlinked_marked}
use Rattle.snap_rule.specs.Kinds.Words.{MayCount, MayStoreHeight, MayStoreOwn, header_stored, height_stored, lock_stored, own_stored}
use Rattle.snap_rule.specs.Rule.{NoneWrites, TableOk, opened}
use Rattle.snap_rule.specs.State.{State}

-- from a table that meets these parts, the step evolves it to one that meets them
abbrev pub KeepsTable : State → State → Type 0
KeepsTable s s' = TableOk s → Evolves s s' × TableOk s'

-- a table that was just opened
abbrev pub Opens : Type 0
Opens = TableOk opened × NoneWrites opened

-- `store_own`
abbrev pub OwnKeeps : Type 0
OwnKeeps = (s : State) (row k b h v : ℕ) (l : Side → ℕ) → MayStoreOwn s row
    → KeepsTable s (own_stored s row k b h v l)

-- `try_lock`, `free_lock`
abbrev pub LockKeeps : Type 0
LockKeeps = (s : State) (row x : ℕ) → s.writers ≢ 0 → KeepsTable s (lock_stored s row x)

-- `try_enter`, `count_left`, `try_close`, `open_gate`
abbrev pub HeaderKeeps : Type 0
HeaderKeeps = (s : State) (g a w : ℕ) → MayCount s g a w → KeepsTable s (header_stored s g a w)

-- `link_leaf`
abbrev pub LeafKeeps : Type 0
LeafKeeps = (s : State) (parent : ℕ) (d : Side) (row : ℕ) (e : Entry) → MayLinkLeaf s parent d row e
    → KeepsTable s (leaf_linked s parent d row e)

-- `store_value`
abbrev pub StoreKeeps : Type 0
StoreKeeps =
    (s : State) (row : ℕ) (e : Entry) → MayStoreValue s row e → KeepsTable s (value_stored s row e)

-- `cut`
abbrev pub CutKeeps : Type 0
CutKeeps = (s : State) → MayCut s → KeepsTable s (cut s)

-- `link_copy`
abbrev pub CopyKeeps : Type 0
CopyKeeps = (s : State) (parent : ℕ) (d : Side) (row copy : ℕ) → MayLinkCopy s parent d row copy
    → KeepsTable s (copy_linked s parent d row copy)

-- `mark_unlinked`
abbrev pub UnlinkKeeps : Type 0
UnlinkKeeps = (s : State) (parent : ℕ) (d : Side) (row : ℕ) → MayMarkUnlinked s parent d row
    → KeepsTable s (unlinked_marked s parent d row)

-- `splice`
abbrev pub SpliceKeeps : Type 0
SpliceKeeps = (s : State) (parent : ℕ) (d : Side) (row : ℕ) → MaySplice s parent d row
    → KeepsTable s (spliced s parent d)

-- `mark_shrinking`
abbrev pub ShrinkKeeps : Type 0
ShrinkKeeps = (s : State) (row : ℕ) → MayMarkShrinking s row → KeepsTable s (shrinking_marked s row)

-- `link_lowered`
abbrev pub LowerKeeps : Type 0
LowerKeeps = (s : State) (row : ℕ) (d : Side) (raised : ℕ) → MayLinkLowered s row d raised
    → KeepsTable s (lowered_linked s row d raised)

-- `link_raised`
abbrev pub LiftKeeps : Type 0
LiftKeeps = (s : State) (row : ℕ) (d : Side) (raised : ℕ) → MayLinkRaised s row d raised
    → KeepsTable s (raised_linked s row d raised)

-- `link_parent`
abbrev pub RaiseKeeps : Type 0
RaiseKeeps = (s : State) (parent : ℕ) (p : Side) (row : ℕ) (d : Side) (raised : ℕ)
    → MayLinkParent s parent p row d raised
    → KeepsTable s (parent_linked s parent p row d raised)

-- `clear_shrinking`
abbrev pub ClearKeeps : Type 0
ClearKeeps =
    (s : State) (row : ℕ) → MayClearShrinking s row → KeepsTable s (shrinking_cleared s row)

-- `store_height`
abbrev pub HeightKeeps : Type 0
HeightKeeps = (s : State) (row x : ℕ) → MayStoreHeight s row → KeepsTable s (height_stored s row x)

-- `confirm_absent`
abbrev pub AbsentKeeps : Type 0
AbsentKeeps = (s : State) (e : Entry) → MayConfirmAbsent s e → KeepsTable s (absent_confirmed s e)
