-- What a pass has loaded, under its lock, of a row and of the heights below it. As long as it holds
-- the row these words stay, since a stored height needs the lock of the parent.
use Rattle.std.specs.Prelude.{ℕ, ◌≡◌, ◌≢◌, ◌⊎◌}
use Rattle.snap_stamp.specs.declared.side.Side.{Side}
use Rattle.snap_stamp.specs.declared.side.Side.TheVariants.{Left, Right}
use Rattle.snap_rule.specs.Settled.{IsBalanced, child_height}
use Rattle.snap_rule.specs.State.{State}

-- the stored heights of a row's children stay
abbrev pub KeepsHeights : State → State → ℕ → Type 0
KeepsHeights s s' n = (d : Side) → child_height s' n d ≡ child_height s n d

-- the links, the value and the height of a row, and the stored heights of its children
pub record Loaded : Type 0 where
  pub left : ℕ
  pub right : ℕ
  pub value : ℕ
  pub height : ℕ
  pub left_height : ℕ
  pub right_height : ℕ

-- the words are as they were loaded
pub record LoadedOk (s : State) (n : ℕ) (x : Loaded) : Type 0 where
  pub left : s.links n Left ≡ x.left
  pub right : s.links n Right ≡ x.right
  pub value : s.value n ≡ x.value
  pub height : s.height n ≡ x.height
  pub left_height : child_height s n Left ≡ x.left_height
  pub right_height : child_height s n Right ≡ x.right_height

-- the loaded words show that the row is settled
abbrev pub ShowsSettled : Loaded → Type 0
ShowsSettled x = IsBalanced x.height x.left_height x.right_height
    × ((x.value ≢ 0) ⊎ (x.left ≢ 0) × (x.right ≢ 0))
