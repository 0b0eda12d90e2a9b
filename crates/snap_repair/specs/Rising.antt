-- The row to which a repair goes next.
use Rattle.std.specs.Prelude.{◌≡◌, ℕ, false}
use Rattle.snap_repair.specs.Mending.{Mends}
use Rattle.snap_prelude.specs.{Known, On, Standing, View}
use Rattle.snap_search.specs.{Prelude.IsWay, Prelude.IsWayEnd, declared.endings.Ending.Ending, declared.kept.Way.Way}

-- where the way of the key may end. Where `here` says so the row may have the key, and nothing more
-- is known of it; else it is the row from which the pass last went on there. Whether it has the key
-- or is the last row of this epoch on its way, and whether it stands below the row above it, is
-- found out under the locks of both
pub record MayEndOn (rows : ℕ) (v : View) (key : ℕ) (e : Ending) : Type 0 where
  pub is_end : IsWayEnd rows v e
  pub place : e.here ≡ false → v.way.place ≡ On key (Standing e.row e.stamp e.side)

-- what holds of each row that was kept holds of those that are
abbrev pub KeepsWay : Way → Way → Type 0
KeepsWay old new = (rows : ℕ) (v : View) → IsWay rows v old → IsWay rows v new

-- the pass has come there, and owes what it owed
pub record GoesTo (rows : ℕ) (old new : Known) (key : ℕ) (e : Ending) : Type 0 where
  pub mends : Mends old new
  pub holds : new.view.holds ≡ old.view.holds
  pub debt : new.view.debt ≡ old.view.debt
  pub ends : MayEndOn rows new.view key e
