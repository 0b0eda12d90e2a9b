-- The parts of the rule that speak of no pass: the tree and the history, which rows stand in the
-- tree, where links lead, what is shared, which words of links a change in progress has already
-- moved, and the counts of writes.
use Rattle.std.specs.Prelude.{[], ℕ, ◌+◌, ◌/◌, ◌^◌, ◌≡◌, ◌≢◌, ◌≤◌, ◌⊎◌}
use Rattle.snap_model.specs.History.{told}
use Rattle.snap_stamp.specs.Stamps.{IsShrinking, IsUnlinked, IsUnmarked}
use Rattle.snap_stamp.specs.declared.side.Side.{Side}
use Rattle.snap_stamp.specs.declared.side.Side.TheVariants.{Left, Right}
use Rattle.snap_rule.specs.State.{Change, In, IsShared, Represents, State, WasLinked}
use Rattle.snap_rule.specs.State.Change.{lowering, plain, raising, unlinking}
use Rattle.snap_rule.specs.Tree.{Between, Stands, find, root}
use Rattle.snap_rule.specs.Tree.Tree.{empty}

-- a live row: it stands in the tree and isn't shared
pub record IsLive (s : State) (n : ℕ) : Type 0 where
  pub stands : Stands n s.tree
  pub own : ¬ IsShared s n

-- a link that a write may change: the right one of row 0, or one of a live row
abbrev pub IsParent : State → ℕ → Side → Type 0
IsParent s n d = (n ≡ 0) × (d ≡ Right) ⊎ IsLive s n

-- the tree: at each key it has what the map after the history has; it is read from the words by its
-- links, from the right link of row 0; its keys rise; its rows were linked and aren't unlinked
pub record TreeOk (s : State) : Type 0 where
  pub tells : (k : ℕ) → find s.tree k ≡ told s.history k
  pub reads : Represents s s.links s.tree
  pub root : s.links 0 Right ≡ root s.tree
  pub ordered : Between 0 (2 ^ 64) s.tree
  pub rows : (n : ℕ) → Stands n s.tree → In n s.linked × ¬ IsUnlinked (s.stamp n)

-- a row that was linked stands in the tree, unless it is unlinked or a copy replaced it; what was
-- replaced is shared, and stands in the tree no more
pub record PresentOk (s : State) : Type 0 where
  pub stands : (n : ℕ) → In n s.linked → ¬ IsUnlinked (s.stamp n) → ¬ In n s.replaced
      → Stands n s.tree
  pub replaced : (n : ℕ) → In n s.replaced → In n s.linked × IsShared s n
  pub gone : (n : ℕ) → In n s.replaced → ¬ Stands n s.tree

-- links lead to rows that were linked, and births are of the past. Row 0 is none of these rows; its
-- stamp and its left link are 0
pub record LinksOk (s : State) : Type 0 where
  pub no_zero : ¬ In 0 s.linked
  pub links : (n : ℕ) (d : Side) → WasLinked s n → (s.link n d ≡ 0) ⊎ In (s.link n d) s.linked
  pub births : (n : ℕ) → In n s.linked → s.birth n ≤ s.epoch
  pub zero_stamp : s.stamp 0 ≡ 0
  pub zero_left : s.link 0 Left ≡ 0

-- shared rows of the tree lead to shared rows
pub record SharingOk (s : State) : Type 0 where
  pub links : (n : ℕ) (d : Side) → Stands n s.tree → IsShared s n → s.link n d ≢ 0
      → IsShared s (s.link n d)

-- the word of a link, by the change that it is in
abbrev pub LinkFits : State → ℕ → Side → Change → Type 0
LinkFits s n d plain = s.link n d ≡ s.links n d
LinkFits s n d (unlinking c) = (s.link n d ≡ c) × (c ≢ 0) × IsUnlinked (s.stamp c)
LinkFits s n d (lowering c) = (s.link n d ≡ c) × IsShrinking (s.stamp n)
LinkFits s n d (raising c) = (s.link n d ≡ c) × IsLive s c × IsShrinking (s.stamp c)

-- each link of row 0 and of the tree's rows is as its change says, and only row 0 and live rows are
-- in a change
pub record ChangesOk (s : State) : Type 0 where
  pub fits : (n : ℕ) (d : Side) → (n ≡ 0) ⊎ Stands n s.tree → LinkFits s n d (s.pending n d)
  pub live : (n : ℕ) (d : Side) → s.pending n d ≢ plain → (n ≡ 0) ⊎ IsLive s n

-- the writes entered are those ended and those in progress
pub record CountsOk (s : State) : Type 0 where
  pub entered : s.gate / 2 ≡ s.left + s.writers

pub record TableOk (s : State) : Type 0 where
  pub tree : TreeOk s
  pub present : PresentOk s
  pub links : LinksOk s
  pub sharing : SharingOk s
  pub changes : ChangesOk s
  pub counts : CountsOk s

-- beside these: where no pass is in a write, no link is in a change and no row of the tree has a
-- mark
pub record NoneWrites (s : State) : Type 0 where
  pub no_change : s.writers ≡ 0 → (n : ℕ) (d : Side) → s.pending n d ≡ plain
  pub no_mark : s.writers ≡ 0 → (n : ℕ) → Stands n s.tree → IsUnmarked (s.stamp n)

-- a table that was just opened
abbrev pub opened : State
opened = record {
  key = λ n. 0;
  birth = λ n. 0;
  stamp = λ n. 0;
  lock = λ n. 0;
  height = λ n. 0;
  value = λ n. 0;
  link = λ n d. 0;
  epoch = 0;
  gate = 0;
  left = 0;
  history = [];
  tree = empty;
  linked = [];
  replaced = [];
  links = λ n d. 0;
  pending = λ n d. plain;
  writers = 0;
}
