-- Whole steps: the views of all passes after the step of one.
use Rattle.std.specs.Prelude.{List, Some, ℕ, ◌+◌, ◌≡◌}
use Rattle.snap_model.specs.declared.call.Entry.{Entry}
use Rattle.snap_stamp.specs.declared.side.Side.{Side}
use Rattle.snap_rule.specs.Evolves.{Evolves}
use Rattle.snap_rule.specs.Kinds.Clones.{MayLinkCopy, copy_linked}
use Rattle.snap_rule.specs.Kinds.Entries.{MayLinkLeaf, absent_confirmed, leaf_linked, value_stored}
use Rattle.snap_rule.specs.Kinds.Rotation.{lowered_linked, parent_linked, raised_linked, shrinking_cleared, shrinking_marked}
use Rattle.snap_rule.specs.Kinds.Unlinking.{MayMarkUnlinked, spliced, unlinked_marked}
use Rattle.snap_rule.specs.Kinds.Words.{MayStoreOwn, header_stored, height_stored, lock_stored, own_stored}
use Rattle.snap_rule.specs.Rule.{TableOk}
use Rattle.snap_rule.specs.State.{State}
use Rattle.snap_rule.specs.Views.{HoldsFor, LeavesOthers, View, ViewOk, at_seat, with_seat}

-- one law for a whole step: the stepping pass shows its own new view, and what it leaves to the
-- others keeps theirs
abbrev pub StepHolds : Type 0
StepHolds = (s s' : State) (views : List View) (id : ℕ) (v w : View) → HoldsFor s views
    → at_seat views id ≡ Some v → w.who ≡ v.who → Evolves s s' → TableOk s'
    → LeavesOthers s s' v.who → ViewOk s' w → HoldsFor s' (with_seat views id w)

-- a step of pass `who` that holds the rows which it changes leaves alone what other passes hold
pub record KindsLeave (s : State) (who : ℕ) : Type 0 where
  pub own : (row k b h v : ℕ) (l : Side → ℕ) → MayStoreOwn s row
      → LeavesOthers s (own_stored s row k b h v l) who
  pub take : (row x : ℕ) → s.lock row ≡ 0 → LeavesOthers s (lock_stored s row x) who
  pub free : (row : ℕ) → s.lock row ≡ who + 1 → LeavesOthers s (lock_stored s row 0) who
  pub header : (g a w : ℕ) → LeavesOthers s (header_stored s g a w) who
  pub leaf : (parent : ℕ) (d : Side) (row : ℕ) (e : Entry) → MayLinkLeaf s parent d row e
      → s.lock parent ≡ who + 1 → LeavesOthers s (leaf_linked s parent d row e) who
  pub store : (row : ℕ) (e : Entry) → LeavesOthers s (value_stored s row e) who
  pub copy : (parent : ℕ) (d : Side) (row copy : ℕ) → MayLinkCopy s parent d row copy
      → s.lock parent ≡ who + 1 → LeavesOthers s (copy_linked s parent d row copy) who
  pub unlink : (parent : ℕ) (d : Side) (row : ℕ) → MayMarkUnlinked s parent d row
      → s.lock parent ≡ who + 1 → s.lock row ≡ who + 1
      → LeavesOthers s (unlinked_marked s parent d row) who
  pub splice : (parent : ℕ) (d : Side) → s.lock parent ≡ who + 1
      → LeavesOthers s (spliced s parent d) who
  pub shrink : (row : ℕ) → s.lock row ≡ who + 1 → LeavesOthers s (shrinking_marked s row) who
  pub lower : (row : ℕ) (d : Side) (raised : ℕ) → s.lock row ≡ who + 1
      → LeavesOthers s (lowered_linked s row d raised) who
  pub lift : (row : ℕ) (d : Side) (raised : ℕ) → s.lock row ≡ who + 1 → s.lock raised ≡ who + 1
      → LeavesOthers s (raised_linked s row d raised) who
  pub raise : (parent : ℕ) (p : Side) (row : ℕ) (d : Side) (raised : ℕ) → s.lock parent ≡ who + 1
      → s.lock row ≡ who + 1 → s.lock raised ≡ who + 1
      → LeavesOthers s (parent_linked s parent p row d raised) who
  pub clear : (row : ℕ) → s.lock row ≡ who + 1 → LeavesOthers s (shrinking_cleared s row) who
  pub height : (row x : ℕ) → LeavesOthers s (height_stored s row x) who
  pub absent : (e : Entry) → LeavesOthers s (absent_confirmed s e) who

-- and it does
abbrev pub HeldLeave : Type 0
HeldLeave = (s : State) (who : ℕ) → TableOk s → KindsLeave s who
