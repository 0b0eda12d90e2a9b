-- A stored height.
use Rattle.std.specs.Prelude.{◌≡◌, ◌≢◌, ◌⊎◌, ℕ, Some}
use Rattle.snap_repair.specs.{Mending.Mends, Looking.height_over, declared.look.Look.Look}
use Rattle.snap_prelude.specs.{AimsAt, Field, HasHeight, Height, IsKnown}
use Rattle.snap_prelude.specs.{IsListed, IsNoted, Key, Known, or_else, Side, View}
use Rattle.snap_shape.specs.{Grips.HasGrip, declared.grip.Grip.Grip}

-- the row has its right height. What was known of other words still is, and so are the listed rows
pub record Heightens (old new : Known) (row : Grip) : Type 0 where
  pub mends : Mends old new
  pub holds : new.view.holds ≡ old.view.holds
  pub knows : (q : ℕ) (f : Field) (x : ℕ) → ((q ≡ row.row) × (f ≡ Height) → ⊥)
      → IsKnown old.view.words.knows q f x → IsKnown new.view.words.knows q f x
  pub listed : (n x : ℕ) → IsListed n x old.view.debt.list → IsListed n x new.view.debt.list
  pub to_do : new.view.debt.to_do ≡ or_else old.view.debt.to_do row.key

-- the row has its right height or has left its tree. What was known of other rows still is, and so
-- are keys and stamps of all others
pub record Lifts (old new : Known) (parent row : Grip) : Type 0 where
  pub mends : Mends old new
  pub holds : new.view.holds ≡ old.view.holds
  pub others : (q : ℕ) (f : Field) (x : ℕ) → q ≢ parent.row → q ≢ row.row
      → IsKnown old.view.words.knows q f x → IsKnown new.view.words.knows q f x
  pub grips : (g : Grip) → g.row ≢ row.row → HasGrip old.view g → HasGrip new.view g

-- what the debt has to be where a height below the parent is stored in repairs
abbrev pub RaisesFor : View → ℕ → ℕ → Type 0
RaisesFor v parent r = AimsAt v r ⊎ IsNoted v parent ⊎ (parent ≡ 0)

-- and where a row is lowered: the to-do key comes to be the row's, or is the raised row's
abbrev pub TurnsNear : View → ℕ → ℕ → ℕ → ℕ → Type 0
TurnsNear v parent r raised key = (IsKnown v.words.knows r Key key × (AimsAt v r ⊎ AimsAt v parent))
    ⊎ (IsKnown v.words.knows raised Key key × (v.debt.to_do ≡ Some key))

-- the row has the right height over what was loaded, and this is still known
pub record SetsRight (old new : Known) (row : Grip) (l : Look) : Type 0 where
  pub heightens : Heightens old new row
  pub height : IsKnown new.view.words.knows row.row Height (height_over l)
  pub left_height : HasHeight new.view row.row Side.Left l.left_height
  pub right_height : HasHeight new.view row.row Side.Right l.right_height
