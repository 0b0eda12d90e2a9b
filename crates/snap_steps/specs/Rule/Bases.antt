-- The part of the rule on clones: what a clone's seat reads is as it was at the cut.
use Rattle.std.specs.Prelude.{◌≡◌, ◌≤◌, ℕ}
use Rattle.snap_model.specs.History.{Begins}
use Rattle.snap_rule.specs.State.{State as Table, In, IsImage}
use Rattle.snap_rule.specs.Tree.{root}
use Rattle.snap_stamp.specs.declared.side.Side.TheVariants.{Right}
use Rattle.snap_stamp.specs.Stamps.{count_of, last_count}
use Rattle.snap_steps.specs.Clones.{tree_of, IsCloneOf}
use Rattle.snap_steps.specs.Stages.{has_cut, is_quiet}
use Rattle.snap_steps.specs.declared.view.Balance.{Balance}
use Rattle.snap_steps.specs.declared.view.Balance.TheVariants.{Settled, RowsOut, StampOut}
use Rattle.snap_steps.specs.declared.view.Base.{Base}
use Rattle.snap_steps.specs.declared.view.Stage.{Stage}
use Rattle.snap_steps.specs.declared.view.View.{View}

-- the row was linked, and may be lowered no more
pub record IsOut (s : Table) (row : ℕ) : Type 0 where
  pub linked : In row s.linked
  pub last : last_count ≤ count_of (s.stamp row)

-- the row that a clone has as the cause of its balance is such a row for good
abbrev pub KeepsCause : Table → Balance → Type 0
KeepsCause s Settled = Unit {0}
KeepsCause s RowsOut = Unit {0}
KeepsCause s (StampOut row) = IsOut s row

-- the tree is the image of its root, its rows are shared, and it tells the map after a beginning of
-- the history
pub record IsBase (s : Table) (base : Base) : Type 0 where
  pub begins : Begins base.history s.history
  pub image : IsImage s (root (tree_of base.parts)) (tree_of base.parts)
  pub clone : IsCloneOf base.history (tree_of base.parts)
  pub cause : KeepsCause s base.balance

-- once a closing pass has cut, no write is in progress, the table's root is still the clone's, and
-- its history is still the clone's
abbrev pub StandsStill : Table → Stage → Base → Type 0
StandsStill s stage base = has_cut stage ≡ 1
    → (is_quiet stage ≡ 1) × (s.link 0 Right ≡ root (tree_of base.parts))
    × (s.history ≡ base.history)

abbrev pub KnowsBase : Table → View → Type 0
KnowsBase s v = IsBase s v.base × StandsStill s v.stage v.base
