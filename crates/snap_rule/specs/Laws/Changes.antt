-- A pass in a change: each of its steps makes what the next one needs, and other passes' steps
-- leave it.
use Rattle.std.specs.Prelude.{ℕ, ◌≡◌, ◌≢◌}
use Rattle.snap_model.specs.declared.call.Entry.{Entry}
use Rattle.snap_stamp.specs.Sides.{other}
use Rattle.snap_stamp.specs.Stamps.{IsUnmarked}
use Rattle.snap_stamp.specs.declared.side.Side.{Side}
use Rattle.snap_rule.specs.Doing.{Apart, Concerns, DoingOk, IsRotation, NotNamed}
use Rattle.snap_rule.specs.Kinds.Clones.{MayLinkCopy, copy_linked}
use Rattle.snap_rule.specs.Kinds.Entries.{leaf_linked, value_stored}
use Rattle.snap_rule.specs.Kinds.Rotation.{MayClearShrinking, MayLinkRaised, MayLinkLowered, MayLinkParent, lowered_linked, parent_linked, raised_linked, shrinking_cleared, shrinking_marked}
use Rattle.snap_rule.specs.Kinds.Unlinking.{MaySplice, MayMarkUnlinked, only_child, spliced, unlinked_marked}
use Rattle.snap_rule.specs.Kinds.Words.{header_stored, height_stored, lock_stored, own_stored}
use Rattle.snap_rule.specs.Rule.{TableOk}
use Rattle.snap_rule.specs.State.{State}
use Rattle.snap_rule.specs.State.Change.{plain}
use Rattle.snap_rule.specs.declared.change.Doing.{Doing}
use Rattle.snap_rule.specs.declared.change.Doing.TheVariants.{Lifted, Lowered, Shrunk, Turned, Unlinked}

-- after `mark_unlinked`
abbrev pub UnlinkDoing : Type 0
UnlinkDoing = (s : State) (parent : ℕ) (d : Side) (row : ℕ) → TableOk s
    → MayMarkUnlinked s parent d row
    → DoingOk (unlinked_marked s parent d row) (Unlinked parent d row (only_child s row))

-- what `splice` needs
abbrev pub SpliceDoing : Type 0
SpliceDoing = (s : State) (parent : ℕ) (d : Side) (row only : ℕ) → s.writers ≢ 0
    → DoingOk s (Unlinked parent d row only)
    → MaySplice s parent d row × (s.links parent d ≡ only)

-- after `mark_shrinking`
abbrev pub ShrinkDoing : Type 0
ShrinkDoing = (s : State) (parent : ℕ) (p : Side) (row : ℕ) (d : Side) (raised : ℕ)
    → IsRotation s parent p row d raised → IsUnmarked (s.stamp row) → s.pending row d ≡ plain
    → NotNamed s row → DoingOk (shrinking_marked s row) (Shrunk parent p row d raised)

-- what `link_lowered` needs, and after it
abbrev pub LowerDoing : Type 0
LowerDoing = (s : State) (parent : ℕ) (p : Side) (row : ℕ) (d : Side) (raised : ℕ) → TableOk s
    → s.writers ≢ 0 → s.pending raised (other d) ≡ plain → DoingOk s (Shrunk parent p row d raised)
    → MayLinkLowered s row d raised
    × DoingOk (lowered_linked s row d raised) (Lowered parent p row d raised)

-- what `link_raised` needs, and after it
abbrev pub LiftDoing : Type 0
LiftDoing = (s : State) (parent : ℕ) (p : Side) (row : ℕ) (d : Side) (raised : ℕ) → s.writers ≢ 0
    → DoingOk s (Lowered parent p row d raised)
    → MayLinkRaised s row d raised
    × DoingOk (raised_linked s row d raised) (Lifted parent p row d raised)

-- what `link_parent` needs, and after it
abbrev pub RaiseDoing : Type 0
RaiseDoing = (s : State) (parent : ℕ) (p : Side) (row : ℕ) (d : Side) (raised : ℕ) → s.writers ≢ 0
    → DoingOk s (Lifted parent p row d raised)
    → MayLinkParent s parent p row d raised
    × DoingOk (parent_linked s parent p row d raised) (Turned row)

-- what `clear_shrinking` needs
abbrev pub ClearDoing : Type 0
ClearDoing =
    (s : State) (row : ℕ) → s.writers ≢ 0 → DoingOk s (Turned row) → MayClearShrinking s row

-- a step that leaves a change's rows alone keeps what is known of the change
abbrev pub DoingKept : Type 0
DoingKept = (s s' : State) (g : Doing) → ((n : ℕ) → Concerns g n → Apart s s' n) → DoingOk s g
    → DoingOk s' g

-- which rows each kind of step leaves alone
pub record LeavesAlone (s : State) (n : ℕ) : Type 0 where
  pub own : (row k b h v : ℕ) (l : Side → ℕ) → n ≢ row → Apart s (own_stored s row k b h v l) n
  pub lock : (row x : ℕ) → Apart s (lock_stored s row x) n
  pub header : (g a w : ℕ) → Apart s (header_stored s g a w) n
  pub leaf : (parent : ℕ) (d : Side) (row : ℕ) (e : Entry) → n ≢ parent → n ≢ row
      → Apart s (leaf_linked s parent d row e) n
  pub store : (row : ℕ) (e : Entry) → Apart s (value_stored s row e) n
  pub copy : (parent : ℕ) (d : Side) (row copy : ℕ) → MayLinkCopy s parent d row copy → n ≢ parent
      → n ≢ copy → Apart s (copy_linked s parent d row copy) n
  pub unlink : (parent : ℕ) (d : Side) (row : ℕ) → MayMarkUnlinked s parent d row → n ≢ parent
      → n ≢ row → Apart s (unlinked_marked s parent d row) n
  pub splice : (parent : ℕ) (d : Side) → n ≢ parent → Apart s (spliced s parent d) n
  pub shrink : (row : ℕ) → n ≢ row → Apart s (shrinking_marked s row) n
  pub lower : (row : ℕ) (d : Side) (raised : ℕ) → n ≢ row
      → Apart s (lowered_linked s row d raised) n
  pub lift : (row : ℕ) (d : Side) (raised : ℕ) → n ≢ row → n ≢ raised
      → Apart s (raised_linked s row d raised) n
  pub raise : (parent : ℕ) (p : Side) (row : ℕ) (d : Side) (raised : ℕ) → n ≢ parent → n ≢ row
      → n ≢ raised → Apart s (parent_linked s parent p row d raised) n
  pub clear : (row : ℕ) → n ≢ row → Apart s (shrinking_cleared s row) n
  pub height : (row x : ℕ) → Apart s (height_stored s row x) n

-- and it does
abbrev pub OthersLeave : Type 0
OthersLeave = (s : State) (n : ℕ) → TableOk s → LeavesAlone s n
