-- Marks: no kind of step but `mark_shrinking` marks a row of the tree, and `clear_shrinking` takes
-- the mark away. So the marked rows of the tree are those of the rotations in progress.
use Rattle.std.specs.Prelude.{ℕ, ◌≢◌}
use Rattle.snap_model.specs.declared.call.Entry.{Entry}
use Rattle.snap_stamp.specs.Stamps.{IsUnmarked}
use Rattle.snap_stamp.specs.declared.side.Side.{Side}
use Rattle.snap_rule.specs.Kinds.Clones.{MayLinkCopy, copy_linked, cut}
use Rattle.snap_rule.specs.Kinds.Entries.{MayLinkLeaf, absent_confirmed, leaf_linked, value_stored}
use Rattle.snap_rule.specs.Kinds.Rotation.{MayClearShrinking, lowered_linked, parent_linked, raised_linked, shrinking_cleared, shrinking_marked}
use Rattle.snap_rule.specs.Kinds.Unlinking.{MayMarkUnlinked, spliced, unlinked_marked}
use Rattle.snap_rule.specs.Kinds.Words.{header_stored, height_stored, lock_stored, own_stored}
use Rattle.snap_rule.specs.Rule.{TableOk}
use Rattle.snap_rule.specs.State.{State}
use Rattle.snap_rule.specs.Tree.{Stands}

-- row n is unmarked in the new tree, if it wasn't marked in the old one
abbrev pub StaysUnmarked : State → State → ℕ → Type 0
StaysUnmarked s s' n =
    Stands n s'.tree → (Stands n s.tree → IsUnmarked (s.stamp n)) → IsUnmarked (s'.stamp n)

-- what each kind of step leaves of the marks
pub record KindsMark (s : State) (n : ℕ) : Type 0 where
  pub own : (row k b h v : ℕ) (l : Side → ℕ) → StaysUnmarked s (own_stored s row k b h v l) n
  pub lock : (row x : ℕ) → StaysUnmarked s (lock_stored s row x) n
  pub header : (g a w : ℕ) → StaysUnmarked s (header_stored s g a w) n
  pub height : (row x : ℕ) → StaysUnmarked s (height_stored s row x) n
  pub leaf : (parent : ℕ) (d : Side) (row : ℕ) (e : Entry) → MayLinkLeaf s parent d row e
      → StaysUnmarked s (leaf_linked s parent d row e) n
  pub store : (row : ℕ) (e : Entry) → StaysUnmarked s (value_stored s row e) n
  pub absent : (e : Entry) → StaysUnmarked s (absent_confirmed s e) n
  pub cut_made : StaysUnmarked s (cut s) n
  pub copy : (parent : ℕ) (d : Side) (row copy : ℕ) → MayLinkCopy s parent d row copy
      → StaysUnmarked s (copy_linked s parent d row copy) n
  pub unlink : (parent : ℕ) (d : Side) (row : ℕ) → MayMarkUnlinked s parent d row
      → StaysUnmarked s (unlinked_marked s parent d row) n
  pub splice : (parent : ℕ) (d : Side) → StaysUnmarked s (spliced s parent d) n
  pub shrink : (row : ℕ) → n ≢ row → StaysUnmarked s (shrinking_marked s row) n
  pub lower : (row : ℕ) (d : Side) (raised : ℕ) → StaysUnmarked s (lowered_linked s row d raised) n
  pub lift : (row : ℕ) (d : Side) (raised : ℕ) → StaysUnmarked s (raised_linked s row d raised) n
  pub raise : (parent : ℕ) (p : Side) (row : ℕ) (d : Side) (raised : ℕ)
      → StaysUnmarked s (parent_linked s parent p row d raised) n
  pub clear : (row : ℕ) → n ≢ row → StaysUnmarked s (shrinking_cleared s row) n
  pub cleared : MayClearShrinking s n → IsUnmarked ((shrinking_cleared s n).stamp n)

-- and it does
abbrev pub MarksKept : Type 0
MarksKept = (s : State) (n : ℕ) → TableOk s → KindsMark s n
