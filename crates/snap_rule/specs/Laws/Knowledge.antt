-- What loaded words tell: which rows are live, which keys are absent, and what a clone reads.
use Rattle.std.specs.Prelude.{None, ℕ, ◌^◌, ◌≡◌, ◌⊎◌}
use Rattle.snap_model.specs.History.{after, told}
use Rattle.snap_model.specs.SortedMap.{at}
use Rattle.snap_stamp.specs.Stamps.{IsUnlinked}
use Rattle.snap_stamp.specs.declared.side.Side.{Side}
use Rattle.snap_stamp.specs.declared.side.Side.TheVariants.{Right}
use Rattle.snap_rule.specs.Evolves.{Evolves}
use Rattle.snap_rule.specs.Kinds.Clones.{MayCut, MayLinkCopy, cut}
use Rattle.snap_rule.specs.Position.{Faces}
use Rattle.snap_rule.specs.Rule.{IsLive, TableOk}
use Rattle.snap_rule.specs.State.{In, IsImage, State}
use Rattle.snap_rule.specs.State.Change.{plain}
use Rattle.snap_rule.specs.Tree.{Between, OnWay, Stands, Tree, find, pairs}

-- a linked row whose birth is the epoch, and that has no unlinked mark, is live
abbrev pub LiveKnown : Type 0
LiveKnown = (s : State) (n : ℕ) → TableOk s → In n s.linked → s.birth n ≡ s.epoch
    → ¬ IsUnlinked (s.stamp n) → IsLive s n

-- a search through an ordered tree finds what its pairs have
abbrev pub FindAt : Type 0
FindAt = (t : Tree) (low high k : ℕ) → Between low high t → find t k ≡ at (pairs t) k

-- the pairs of the tree are the map after the history
abbrev pub TreePairs : Type 0
TreePairs = (s : State) → TableOk s → pairs s.tree ≡ after s.history

-- what a cut shares is the tree, read from its root; it is ordered, and tells what the map has
abbrev pub CutImage : Type 0
CutImage = (s : State) → TableOk s → MayCut s
    → IsImage (cut s) (s.link 0 Right) s.tree × Between 0 (2 ^ 64) s.tree
    × ((k : ℕ) → find s.tree k ≡ told s.history k)

-- the image of a shared row stays as it is
abbrev pub ImageKept : Type 0
ImageKept = (s s' : State) (n : ℕ) (t : Tree) → Evolves s s' → IsImage s n t → IsImage s' n t

-- a live row without a value: its key is absent
abbrev pub AbsentHere : Type 0
AbsentHere = (s : State) (row : ℕ) → TableOk s → IsLive s row → s.value row ≡ 0
    → find s.tree (s.key row) ≡ None

-- at a position for k, a link that is 0 and in no change: k is absent
abbrev pub AbsentBelow : Type 0
AbsentBelow = (s : State) (k n : ℕ) (d : Side) → TableOk s → Faces s n k d
    → (n ≡ 0) ⊎ OnWay s.tree k n → s.pending n d ≡ plain → s.link n d ≡ 0 → find s.tree k ≡ None

-- a shared row that a copy is about to replace was not replaced before: what was replaced is never
-- in the tree again
abbrev pub ReplacedOnce : Type 0
ReplacedOnce = (s : State) → TableOk s
    → ((n : ℕ) → In n s.replaced → ¬ Stands n s.tree)
    × ((parent : ℕ) (d : Side) (row copy : ℕ) → MayLinkCopy s parent d row copy
    → ¬ In row s.replaced)
