-- A rotation lowers a row and raises its child on a side, in five steps. Row gets the shrinking
-- mark; its link on that side takes over the subtree between the two; the raised row's link across
-- takes row; the parent's link takes the raised row, and there the tree changes; the mark is
-- cleared with the next count. Right and left are one: d is the side of the child.
use Rattle.std.specs.Prelude.{ℕ, ◌+◌, ◌<◌, ◌≡◌, ◌≢◌}
use Rattle.snap_stamp.specs.Sides.{other}
use Rattle.snap_stamp.specs.Stamps.{IsLowering, IsUnmarked, count_of, last_count}
use Rattle.snap_stamp.specs.declared.side.Side.{Side}
use Rattle.snap_rule.specs.Rule.{IsLive, IsParent}
use Rattle.snap_rule.specs.State.{State}
use Rattle.snap_rule.specs.State.Change.{lowering, plain, raising}
use Rattle.snap_rule.specs.TreeChanges.{rotated}
use Rattle.snap_rule.specs.Updates.{changed, relink}

-- `mark_shrinking`
abbrev pub shrinking_marked : State → ℕ → State
shrinking_marked s row = record s { stamp = changed s.stamp row (s.stamp row + 2) }

pub record MayMarkShrinking (s : State) (row : ℕ) : Type 0 where
  pub writing : s.writers ≢ 0
  pub live : IsLive s row
  pub unmarked : IsUnmarked (s.stamp row)
  pub below_last : count_of (s.stamp row) < last_count

-- `link_lowered`
abbrev pub lowered_linked : State → ℕ → Side → ℕ → State
lowered_linked s row d raised = record s {
  link = relink s.link row d (s.link raised (other d));
  pending = relink s.pending row d (lowering (s.link raised (other d)));
}

pub record MayLinkLowered (s : State) (row : ℕ) (d : Side) (raised : ℕ) : Type 0 where
  pub writing : s.writers ≢ 0
  pub live : IsLive s row
  pub raised_live : IsLive s raised
  pub marked : IsLowering (s.stamp row)

-- `link_raised`
abbrev pub raised_linked : State → ℕ → Side → ℕ → State
raised_linked s row d raised = record s {
  link = relink s.link raised (other d) row;
  pending = relink s.pending raised (other d) (raising row);
}

pub record MayLinkRaised (s : State) (row : ℕ) (d : Side) (raised : ℕ) : Type 0 where
  pub writing : s.writers ≢ 0
  pub live : IsLive s row
  pub raised_live : IsLive s raised
  pub marked : IsLowering (s.stamp row)

-- `link_parent`
abbrev pub parent_linked : State → ℕ → Side → ℕ → Side → ℕ → State
parent_linked s parent p row d raised = record s {
  link = relink s.link parent p raised;
  links =
      relink (relink (relink s.links row d (s.link row d)) raised (other d) row) parent p raised;
  tree = rotated row d s.tree;
  pending = relink (relink s.pending row d plain) raised (other d) plain;
}

pub record MayLinkParent (s : State) (parent : ℕ) (p : Side) (row : ℕ) (d : Side)
    (raised : ℕ) : Type 0 where
  pub writing : s.writers ≢ 0
  -- the three rows, one below the other
  pub parent_live : IsParent s parent p
  pub live : IsLive s row
  pub raised_live : IsLive s raised
  pub child : s.link parent p ≡ row
  pub raised_child : s.links row d ≡ raised
  pub apart : (raised ≢ row) × (parent ≢ row) × (parent ≢ raised)
  -- how far the rotation is
  pub marked : IsLowering (s.stamp row)
  pub no_change : s.pending parent p ≡ plain
  pub lowered : s.pending row d ≡ lowering (s.link row d)
  pub middle : s.link row d ≡ s.links raised (other d)
  pub raising_is : s.pending raised (other d) ≡ raising row

-- `clear_shrinking`
abbrev pub shrinking_cleared : State → ℕ → State
shrinking_cleared s row = record s { stamp = changed s.stamp row (s.stamp row + 2) }

pub record MayClearShrinking (s : State) (row : ℕ) : Type 0 where
  pub writing : s.writers ≢ 0
  pub live : IsLive s row
  pub marked : IsLowering (s.stamp row)
  pub no_change : (e : Side) → s.pending row e ≡ plain
  pub not_named : (n : ℕ) (e : Side) → s.pending n e ≢ raising row
