-- Each kind of step keeps the debts, if its pass's debt is changed as said here.
use Rattle.std.specs.Prelude.{None, ℕ, ◌≡◌, ◌≢◌, ◌⊎◌}
use Rattle.snap_model.specs.History.{call_key, call_value}
use Rattle.snap_model.specs.declared.call.Entry.{Entry}
use Rattle.snap_stamp.specs.declared.side.Side.{Side}
use Rattle.snap_rule.specs.Debt.{DebtOk, Owes, OwesNone, no_debt}
use Rattle.snap_rule.specs.Debt.Kinds.{MayAim, MayOweHeight, MayOweRaise, MayOweTurn, MayPassUp, clear_debt, height_debt, leaf_debt, raise_debt, shrink_debt, stored_debt}
use Rattle.snap_rule.specs.Debt.Changes.{AimsAtTurn, Turning}
use Rattle.snap_rule.specs.Debt.Lists.{Aims, aimed, noted, taken}
use Rattle.snap_rule.specs.Debt.Step.{IsFree, IsSilent, Owing}
use Rattle.snap_rule.specs.Evolves.{Evolves}
use Rattle.snap_rule.specs.Kinds.Clones.{MayLinkCopy, copy_linked, cut}
use Rattle.snap_rule.specs.Kinds.Entries.{MayLinkLeaf, MayStoreValue, absent_confirmed, leaf_linked, value_stored}
use Rattle.snap_rule.specs.Kinds.Rotation.{MayClearShrinking, MayLinkParent, MayMarkShrinking, lowered_linked, parent_linked, raised_linked, shrinking_cleared, shrinking_marked}
use Rattle.snap_rule.specs.Kinds.Unlinking.{MayMarkUnlinked, spliced, unlinked_marked}
use Rattle.snap_rule.specs.Kinds.Words.{MayStoreOwn, header_stored, height_stored, lock_stored, own_stored}
use Rattle.snap_rule.specs.Rule.{TableOk, opened}
use Rattle.snap_rule.specs.Settled.{IsSettled}
use Rattle.snap_rule.specs.State.{In, State}
use Rattle.snap_rule.specs.declared.debt.Debt.{Debt}

-- `store_value`
abbrev pub StoreOwes : Type 0
StoreOwes = (s : State) (debts : ℕ → Debt) (id row : ℕ) (e : Entry) → TableOk s → DebtOk s debts
    → MayStoreValue s row e → IsFree debts id row
    → (call_value e.call ≡ None → OwesNone s (debts id))
    → Owing (value_stored s row e) debts id
    (stored_debt s row (call_key e.call) (call_value e.call) (debts id))

-- `link_leaf`
abbrev pub LeafOwes : Type 0
LeafOwes = (s : State) (debts : ℕ → Debt) (id parent : ℕ) (d : Side) (row : ℕ) (e : Entry)
    → TableOk s → DebtOk s debts → MayLinkLeaf s parent d row e → IsFree debts id parent
    → OwesNone s (debts id)
    → Owing (leaf_linked s parent d row e) debts id (leaf_debt s parent (call_key e.call))

-- the silent kinds
abbrev pub SilentOwes : Type 0
SilentOwes = (s s' : State) (debts : ℕ → Debt) → IsSilent s s' → DebtOk s debts → DebtOk s' debts

-- which these are
abbrev pub SilentKinds : Type 0
SilentKinds =
    ((s : State) (e : Entry) → IsSilent s (absent_confirmed s e))
    × ((s : State) (row x : ℕ) → IsSilent s (lock_stored s row x))
    × ((s : State) (g a w : ℕ) → IsSilent s (header_stored s g a w))
    × ((s : State) (parent : ℕ) (d : Side) → IsSilent s (spliced s parent d))
    × ((s : State) (row : ℕ) (d : Side) (raised : ℕ) → IsSilent s (lowered_linked s row d raised))
    × ((s : State) (row : ℕ) (d : Side) (raised : ℕ) → IsSilent s (raised_linked s row d raised))

-- a pass enters or leaves a write
abbrev pub LeaveOwes : Type 0
LeaveOwes = (s : State) (debts : ℕ → Debt) (id : ℕ) → DebtOk s debts → OwesNone s (debts id)
    → Owing s debts id no_debt

-- `store_height`
abbrev pub HeightOwes : Type 0
HeightOwes = (s : State) (debts : ℕ → Debt) (id parent : ℕ) (d : Side) (row h : ℕ) → TableOk s
    → DebtOk s debts → MayOweHeight s debts id parent d row h
    → Owing (height_stored s row h) debts id (height_debt s parent row (debts id))

-- `pass_up`
abbrev pub UpOwes : Type 0
UpOwes = (s : State) (debts : ℕ → Debt) (id parent : ℕ) (d : Side) (row : ℕ) → TableOk s
    → DebtOk s debts → MayPassUp s (debts id) parent d row
    → Owing s debts id (aimed s parent (taken row (debts id).list))

-- `settle_last`: the row is settled, and no other is owed
abbrev pub LastOwes : Type 0
LastOwes = (s : State) (debts : ℕ → Debt) (id row : ℕ) → DebtOk s debts → IsSettled s row
    → ((n : ℕ) → Owes s (debts id) n → n ≡ row)
    → Owing s debts id no_debt

-- `aim`
abbrev pub AimOwes : Type 0
AimOwes = (s : State) (debts : ℕ → Debt) (id row : ℕ) → TableOk s → DebtOk s debts
    → MayAim s (debts id) row → Owing s debts id (aimed s row (debts id).list)

-- `mark_unlinked`
abbrev pub UnlinkOwes : Type 0
UnlinkOwes = (s : State) (debts : ℕ → Debt) (id parent : ℕ) (d : Side) (row : ℕ) → TableOk s
    → DebtOk s debts → MayMarkUnlinked s parent d row
    → OwesNone s (debts id) ⊎ Aims s (debts id) row ⊎ Aims s (debts id) parent
    → IsFree debts id parent
    → Owing (unlinked_marked s parent d row) debts id
    (aimed s parent (taken row (noted s parent (debts id).list)))

-- `link_copy`
abbrev pub CopyOwes : Type 0
CopyOwes = (s : State) (debts : ℕ → Debt) (parent : ℕ) (d : Side) (row copy : ℕ) → TableOk s
    → DebtOk s debts → MayLinkCopy s parent d row copy
    → DebtOk (copy_linked s parent d row copy) debts

-- `cut`, where no pass owes
abbrev pub CutOwes : Type 0
CutOwes = (s : State) (debts : ℕ → Debt) → DebtOk s debts → ((j : ℕ) → OwesNone s (debts j))
    → DebtOk (cut s) debts

-- `mark_shrinking`
abbrev pub ShrinkOwes : Type 0
ShrinkOwes = (s : State) (debts : ℕ → Debt) (id parent : ℕ) (p : Side) (row : ℕ) (d : Side)
    (raised key : ℕ)
    → TableOk s → DebtOk s debts → MayMarkShrinking s row
    → MayOweTurn s debts id parent p row d raised key
    → Owing (shrinking_marked s row) debts id
    (shrink_debt (shrinking_marked s row) row key (debts id))

-- `link_parent`
abbrev pub RaiseOwes : Type 0
RaiseOwes = (s : State) (debts : ℕ → Debt) (id parent : ℕ) (p : Side) (row : ℕ) (d : Side)
    (raised : ℕ)
    → TableOk s → DebtOk s debts → MayLinkParent s parent p row d raised
    → MayOweRaise s debts id parent row raised
    → Owing (parent_linked s parent p row d raised) debts id
    (raise_debt s parent row raised (debts id))

-- `clear_shrinking`
abbrev pub ClearOwes : Type 0
ClearOwes = (s : State) (debts : ℕ → Debt) (id row : ℕ) → TableOk s → DebtOk s debts
    → MayClearShrinking s row → Owes s (debts id) row → IsFree debts id row
    → Owing (shrinking_cleared s row) debts id (clear_debt (shrinking_cleared s row) row (debts id))

-- and `store_own`
abbrev pub OwnSilent : Type 0
OwnSilent = (s : State) (row k b h v : ℕ) (l : Side → ℕ) → TableOk s → MayStoreOwn s row
    → IsSilent s (own_stored s row k b h v l)

-- after `link_parent` the pass is lowering the row, and owes it
abbrev pub RaiseTurns : Type 0
RaiseTurns = (s : State) (parent : ℕ) (p : Side) (row : ℕ) (d : Side) (raised : ℕ) (v : Debt)
    → row ≢ 0
    → Turning (parent_linked s parent p row d raised) (raise_debt s parent row raised v) row

-- a step of another pass leaves it so
abbrev pub TurnKept : Type 0
TurnKept = (s s' : State) (v : Debt) (row raised : ℕ) → Evolves s s' → In row s.linked
    → In raised s.linked → s'.stamp row ≡ s.stamp row → Turning s v row × AimsAtTurn s v row raised
    → Turning s' v row × AimsAtTurn s' v row raised

-- a table that was just opened
abbrev pub OpensOwes : Type 0
OpensOwes = DebtOk opened (λ j. no_debt)
