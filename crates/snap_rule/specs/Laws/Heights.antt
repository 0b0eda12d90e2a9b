-- Heights that were loaded under a lock: what they show, and which steps keep them.
use Rattle.std.specs.Prelude.{ℕ, ◌≡◌, ◌≢◌}
use Rattle.snap_model.specs.declared.call.Entry.{Entry}
use Rattle.snap_stamp.specs.declared.side.Side.{Side}
use Rattle.snap_rule.specs.Doing.{Apart}
use Rattle.snap_rule.specs.Heights.{KeepsHeights, Loaded, LoadedOk, ShowsSettled}
use Rattle.snap_rule.specs.Kinds.Entries.{value_stored}
use Rattle.snap_rule.specs.Kinds.Words.{MayStoreOwn, height_stored, own_stored}
use Rattle.snap_rule.specs.Rule.{IsParent, TableOk}
use Rattle.snap_rule.specs.Settled.{IsSettled, child_height}
use Rattle.snap_rule.specs.State.{State}
use Rattle.snap_rule.specs.State.Change.{plain}
use Rattle.snap_rule.specs.Tree.{Stands}

-- a step that leaves a row alone and stores no height keeps the heights below the row
abbrev pub HeightsApart : Type 0
HeightsApart = (s s' : State) (n : ℕ) → Apart s s' n → ((m : ℕ) → s'.height m ≡ s.height m)
    → KeepsHeights s s' n

-- so does `store_height` below another parent
abbrev pub HeightsHeight : Type 0
HeightsHeight = (s : State) (parent : ℕ) (p : Side) (row h n : ℕ) (d : Side) → TableOk s
    → IsParent s parent p → s.links parent p ≡ row → row ≢ 0 → IsParent s n d → n ≢ parent
    → child_height (height_stored s row h) n d ≡ child_height s n d

-- what the kinds that store values and heights leave of the words of another row
abbrev pub HeldWords : Type 0
HeldWords =
    ((s : State) (row : ℕ) (e : Entry) (n : ℕ) → n ≢ row
    → ((value_stored s row e).value n ≡ s.value n)
    × ((value_stored s row e).height n ≡ s.height n) × KeepsHeights s (value_stored s row e) n)
    × ((s : State) (row h n : ℕ) → n ≢ row
    → ((height_stored s row h).value n ≡ s.value n)
    × ((height_stored s row h).height n ≡ s.height n))
    × ((s : State) (row k b h v : ℕ) (l : Side → ℕ) (n : ℕ) → TableOk s → MayStoreOwn s row
    → Stands n s.tree
    → ((own_stored s row k b h v l).value n ≡ s.value n)
    × ((own_stored s row k b h v l).height n ≡ s.height n)
    × KeepsHeights s (own_stored s row k b h v l) n)

-- what was loaded tells that a row is settled
abbrev pub LoadedSettled : Type 0
LoadedSettled = (s : State) (n : ℕ) (x : Loaded) → LoadedOk s n x → ShowsSettled x → IsSettled s n

-- the height of a child is that of the row which the loaded link names, if the link is in no change
abbrev pub ChildLoaded : Type 0
ChildLoaded = (s : State) (n : ℕ) (d : Side) (c : ℕ) → TableOk s → IsParent s n d
    → s.pending n d ≡ plain → s.link n d ≡ c
    → (s.links n d ≡ c) × (c ≡ 0 → child_height s n d ≡ 0)
    × (c ≢ 0 → child_height s n d ≡ s.height c)
