-- A change in progress: what its pass knows after each of its steps, which is what the next one
-- needs, and what a step of another pass leaves of that.
use Rattle.std.specs.Prelude.{ℕ, ◌≡◌, ◌≢◌, ◌⊎◌}
use Rattle.snap_stamp.specs.Sides.{other}
use Rattle.snap_stamp.specs.Stamps.{IsLowering}
use Rattle.snap_stamp.specs.declared.side.Side.{Side}
use Rattle.snap_rule.specs.Rule.{IsLive, IsParent}
use Rattle.snap_rule.specs.State.{State}
use Rattle.snap_rule.specs.State.Change.{lowering, plain, raising, unlinking}
use Rattle.snap_rule.specs.declared.change.Doing.{Doing}
use Rattle.snap_rule.specs.declared.change.Doing.TheVariants.{Lifted, Lowered, Nothing, Shrunk, Turned, Unlinked}

-- the rows of a change, which its pass holds
abbrev pub Concerns : Doing → ℕ → Type 0
Concerns Nothing n = ⊥
Concerns (Unlinked parent d row only) n = n ≡ parent
Concerns (Shrunk parent p row d raised) n = (n ≡ parent) ⊎ (n ≡ row) ⊎ (n ≡ raised)
Concerns (Lowered parent p row d raised) n = (n ≡ parent) ⊎ (n ≡ row) ⊎ (n ≡ raised)
Concerns (Lifted parent p row d raised) n = (n ≡ parent) ⊎ (n ≡ row) ⊎ (n ≡ raised)
Concerns (Turned row) n = n ≡ row

-- a rotation up to its fourth step: the parent, the row, and its child on side d that is to be
-- raised
pub record IsRotation (s : State) (parent : ℕ) (p : Side) (row : ℕ) (d : Side)
    (raised : ℕ) : Type 0 where
  pub parent_live : IsParent s parent p
  pub live : IsLive s row
  pub raised_live : IsLive s raised
  pub child : s.link parent p ≡ row
  pub raised_child : s.links row d ≡ raised
  pub parent_plain : s.pending parent p ≡ plain
  pub row_plain : s.pending row (other d) ≡ plain
  pub apart : (raised ≢ row) × (parent ≢ row) × (parent ≢ raised)

-- no link is raising the row
abbrev pub NotNamed : State → ℕ → Type 0
NotNamed s row = (n : ℕ) (e : Side) → s.pending n e ≢ raising row

-- after `mark_unlinked`: the tree is without the row, and the parent's link still names it
pub record HasUnlinked (s : State) (parent : ℕ) (d : Side) (row only : ℕ) : Type 0 where
  pub parent_live : IsParent s parent d
  pub change : s.pending parent d ≡ unlinking row
  pub child : s.links parent d ≡ only

-- after `mark_shrinking`: no link has moved
pub record HasShrunk (s : State) (parent : ℕ) (p : Side) (row : ℕ) (d : Side)
    (raised : ℕ) : Type 0 where
  pub turn : IsRotation s parent p row d raised
  pub marked : IsLowering (s.stamp row)
  pub row_link : s.pending row d ≡ plain
  pub not_named : NotNamed s row

-- after `link_lowered`: the row's link leads to the subtree between the two
pub record HasLowered (s : State) (parent : ℕ) (p : Side) (row : ℕ) (d : Side)
    (raised : ℕ) : Type 0 where
  pub turn : IsRotation s parent p row d raised
  pub marked : IsLowering (s.stamp row)
  pub row_link : s.pending row d ≡ lowering (s.link row d)
  pub middle : s.link row d ≡ s.links raised (other d)
  pub not_named : NotNamed s row

-- after `link_raised`: the raised row's link leads to the row, and no other link is raising it
pub record HasLifted (s : State) (parent : ℕ) (p : Side) (row : ℕ) (d : Side)
    (raised : ℕ) : Type 0 where
  pub turn : IsRotation s parent p row d raised
  pub marked : IsLowering (s.stamp row)
  pub row_link : s.pending row d ≡ lowering (s.link row d)
  pub middle : s.link row d ≡ s.links raised (other d)
  pub raised_link : s.pending raised (other d) ≡ raising row
  pub named_once : (n : ℕ) (e : Side) → s.pending n e ≡ raising row → (n ≡ raised) × (e ≡ other d)

-- after `link_parent`: the tree has its new form, and the row its mark still
pub record HasTurned (s : State) (row : ℕ) : Type 0 where
  pub live : IsLive s row
  pub marked : IsLowering (s.stamp row)
  pub no_change : (e : Side) → s.pending row e ≡ plain
  pub not_named : NotNamed s row

-- what is known of a change
abbrev pub DoingOk : State → Doing → Type 0
DoingOk s Nothing = Unit {0}
DoingOk s (Unlinked parent d row only) = HasUnlinked s parent d row only
DoingOk s (Shrunk parent p row d raised) = HasShrunk s parent p row d raised
DoingOk s (Lowered parent p row d raised) = HasLowered s parent p row d raised
DoingOk s (Lifted parent p row d raised) = HasLifted s parent p row d raised
DoingOk s (Turned row) = HasTurned s row

-- a step leaves a row alone: its stamp and its links, in memory and in the tree, no new link is
-- raising it, and it stays live
pub record Apart (s s' : State) (n : ℕ) : Type 0 where
  pub stamp : s'.stamp n ≡ s.stamp n
  pub link : (d : Side) → s'.link n d ≡ s.link n d
  pub links : (d : Side) → s'.links n d ≡ s.links n d
  pub pending : (d : Side) → s'.pending n d ≡ s.pending n d
  pub named : (m : ℕ) (e : Side) → s'.pending m e ≡ raising n → s.pending m e ≡ raising n
  pub live : IsLive s n → IsLive s' n
