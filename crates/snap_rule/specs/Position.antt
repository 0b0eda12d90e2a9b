-- The position of a search. A search for k may stand at row 0, at an unshared row of the tree on
-- the way to k, or at a shared row whose image has at k what the map had there at some moment since
-- the reader began. A reader that has loaded a row's stamp keeps its position as long as the row
-- has that stamp.
use Rattle.std.specs.Prelude.{List, ℕ, ◌≡◌, ◌≢◌, ◌≤◌, ◌⊎◌}
use Rattle.snap_model.specs.History.{told}
use Rattle.snap_model.specs.declared.call.Entry.{Entry}
use Rattle.snap_stamp.specs.Sides.{Toward}
use Rattle.snap_stamp.specs.Stamps.{IsUnmarked}
use Rattle.snap_stamp.specs.declared.side.Side.{Side}
use Rattle.snap_stamp.specs.declared.side.Side.TheVariants.{Right}
use Rattle.snap_rule.specs.Moments.{AtSome}
use Rattle.snap_rule.specs.State.{IsImage, IsShared, State, WasLinked}
use Rattle.snap_rule.specs.Tree.{OnWay, Tree, find}

-- n is shared, and its image has at k what the map had at some moment
pub record OnImage (s : State) (seen : List Entry) (n k : ℕ) : Type 0 where
  pub shared : IsShared s n
  pub image : Tree
  pub is_image : IsImage s n image
  pub tells : AtSome seen s.history (λ p. find image k ≡ told p k)

-- a search for k may stand at row n
abbrev pub IsPlaced : State → List Entry → ℕ → ℕ → Type 0
IsPlaced s seen n k = (n ≡ 0) ⊎ (¬ IsShared s n) × OnWay s.tree k n ⊎ OnImage s seen n k

-- the side of n on which the search goes on: the right one at row 0, and elsewhere that of k, which
-- isn't n's key
abbrev pub Faces : State → ℕ → ℕ → Side → Type 0
Faces s n k d = (n ≡ 0) × (d ≡ Right) ⊎ (n ≢ 0) × Toward d k (s.key n)

-- v was loaded as the stamp of n, without a mark
pub record IsRecorded (s : State) (n v : ℕ) : Type 0 where
  pub reached : WasLinked s n
  pub unmarked : IsUnmarked v
  pub recorded : v ≤ s.stamp n

-- a reader stands at n, whose stamp it loaded as v, and looks for k on side d
pub record IsStanding (s : State) (seen : List Entry) (k n v : ℕ) (d : Side) : Type 0 where
  pub stamp : IsRecorded s n v
  pub faces : Faces s n k d
  pub placed : s.stamp n ≡ v → IsPlaced s seen n k
