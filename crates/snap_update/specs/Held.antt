-- A write at a row that it holds.
use Rattle.std.specs.Prelude.{◌≡◌, ◌⊎◌, ℕ, [], ◌∷◌, false}
use Rattle.snap_prelude.specs.{AllAre, IsBorn, IsKnown, IsLeaf, Known, no_debt}
use Rattle.snap_prelude.specs.{no_more_reached, Nothing, same_rows, Stamp, View, Writing}
use Rattle.snap_search.specs.Prelude.{Works}

-- in a write without its entry, no row is held, nothing is owed, and copies were made for no other
-- key
pub record IsReady (v : View) (key : ℕ) : Type 0 where
  pub writing : v.stage ≡ Writing false false
  pub free : v.holds ≡ []
  pub whole : v.doing ≡ Nothing
  pub owes : v.debt ≡ no_debt
  pub copies : AllAre key v.fresh.copies

-- one row is held
abbrev pub Holds : View → ℕ → Type 0
Holds v row = v.holds ≡ row ∷ []

-- the same once the row of its place is locked
pub record IsAtWork (v : View) (row key : ℕ) : Type 0 where
  pub writing : v.stage ≡ Writing false false
  pub held : Holds v row
  pub whole : v.doing ≡ Nothing
  pub owes : v.debt ≡ no_debt
  pub copies : AllAre key v.fresh.copies

-- the pass has loaded words of the row, and stands where it stood
pub record Checks (old new : Known) : Type 0 where
  pub works : Works old new []
  pub at : new.view.way.reads ≡ old.view.way.reads

-- and by these the row has the stamp still and, away from row 0, is of this epoch
pub record IsStill (old new : Known) (row stamp : ℕ) : Type 0 where
  pub works : Works old new []
  pub at : new.view.way.reads ≡ old.view.way.reads
  pub place : new.view.way.place ≡ old.view.way.place
  pub still : IsKnown new.view.words.knows row Stamp stamp
  pub live : (row ≡ 0) ⊎ IsBorn new.view row

-- the pass with other words stored in its own rows
abbrev pub stored_in : Known → View → Known
stored_in k w =
    record {
      table = k.table;
      view = record k.view {
        trail = no_more_reached k.view.trail w.trail;
        fresh = same_rows k.view.fresh w.fresh;
      };
    }

-- a row of the pass was made a leaf
pub record MakesLeaf (old new : Known) (leaf key value : ℕ) : Type 0 where
  pub is : new ≡ stored_in old new.view
  pub leaf_is : IsLeaf new.view leaf key value
