-- A row without a value and with one child at most leaves the tree in two steps. It gets the
-- unlinked mark, by which the tree is already without it; then its parent's link is led past it.
use Rattle.std.specs.Prelude.{if◌then◌else◌, ℕ, ◌+◌, ◌==◌, ◌≡◌, ◌≢◌, ◌⊎◌}
use Rattle.snap_stamp.specs.Stamps.{IsUnmarked}
use Rattle.snap_stamp.specs.declared.side.Side.{Side}
use Rattle.snap_stamp.specs.declared.side.Side.TheVariants.{Left, Right}
use Rattle.snap_rule.specs.Rule.{IsLive, IsParent}
use Rattle.snap_rule.specs.State.{State}
use Rattle.snap_rule.specs.State.Change.{plain, unlinking}
use Rattle.snap_rule.specs.TreeChanges.{without}
use Rattle.snap_rule.specs.Updates.{changed, relink}

-- the one child of a row, or 0
abbrev pub only_child : State → ℕ → ℕ
only_child s row = if s.link row Left == 0 then s.link row Right else s.link row Left

-- `mark_unlinked`
abbrev pub unlinked_marked : State → ℕ → Side → ℕ → State
unlinked_marked s parent d row = record s {
  stamp = changed s.stamp row (s.stamp row + 1);
  links = relink s.links parent d (only_child s row);
  tree = without row s.tree;
  pending = relink s.pending parent d (unlinking row);
}

pub record MayMarkUnlinked (s : State) (parent : ℕ) (d : Side) (row : ℕ) : Type 0 where
  pub writing : s.writers ≢ 0
  pub parent_live : IsParent s parent d
  pub live : IsLive s row
  pub child : s.link parent d ≡ row
  pub no_change : (n : ℕ) (e : Side) → (n ≡ parent) ⊎ (n ≡ row) → s.pending n e ≡ plain
  pub unmarked : IsUnmarked (s.stamp row)
  pub no_value : s.value row ≡ 0
  pub apart : parent ≢ row
  pub one_child : (s.link row Left ≡ 0) ⊎ (s.link row Right ≡ 0)

-- `splice`
abbrev pub spliced : State → ℕ → Side → State
spliced s parent d = record s {
  link = relink s.link parent d (s.links parent d);
  pending = relink s.pending parent d plain;
}

pub record MaySplice (s : State) (parent : ℕ) (d : Side) (row : ℕ) : Type 0 where
  pub writing : s.writers ≢ 0
  pub parent_live : IsParent s parent d
  pub change : s.pending parent d ≡ unlinking row
