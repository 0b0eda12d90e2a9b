-- Clones: the cut, which begins an epoch and thereby shares every row that was linked, and the lazy
-- copy of a shared row.
use Rattle.std.specs.Prelude.{ℕ, ◌+◌, ◌<◌, ◌∷◌, ◌≡◌, ◌≢◌}
use Rattle.snap_stamp.specs.declared.side.Side.{Side}
use Rattle.snap_rule.specs.Rule.{IsParent}
use Rattle.snap_rule.specs.State.{In, IsShared, State}
use Rattle.snap_rule.specs.State.Change.{plain}
use Rattle.snap_rule.specs.TreeChanges.{renamed}
use Rattle.snap_rule.specs.Updates.{changed, relink}

-- `cut`
abbrev pub cut : State → State
cut s = record s { epoch = s.epoch + 1 }

pub record MayCut (s : State) : Type 0 where
  pub none_writes : s.writers ≡ 0
  pub no_change : (n : ℕ) (d : Side) → s.pending n d ≡ plain

-- `link_copy`: a fresh row, filled with the words of a shared child, takes its place below the
-- parent
abbrev pub copy_linked : State → ℕ → Side → ℕ → ℕ → State
copy_linked s parent d row copy = record s {
  link = relink s.link parent d copy;
  links = relink (changed s.links copy (s.link copy)) parent d copy;
  tree = renamed row copy s.tree;
  linked = copy ∷ s.linked;
  replaced = row ∷ s.replaced;
}

pub record MayLinkCopy (s : State) (parent : ℕ) (d : Side) (row copy : ℕ) : Type 0 where
  pub writing : s.writers ≢ 0
  -- the shared child
  pub parent_live : IsParent s parent d
  pub shared : IsShared s row
  pub child : s.link parent d ≡ row
  pub no_change : s.pending parent d ≡ plain
  -- the copy
  pub is_row : 0 < copy
  pub fresh : ¬ In copy s.linked
  pub key : s.key copy ≡ s.key row
  pub value : s.value copy ≡ s.value row
  pub height : s.height copy ≡ s.height row
  pub links : (e : Side) → s.link copy e ≡ s.link row e
  pub birth : s.birth copy ≡ s.epoch
  pub stamp : s.stamp copy ≡ 0
