-- What a repair leaves behind where it makes the child of a held row its own.
use Rattle.std.specs.Prelude.{◌≡◌, ◌≢◌, ◌⊎◌, ◌≤◌, ℕ, [], ◌∷◌, None, true}
use Rattle.snap_copy.specs.{Mending.Firm, Mending.MendsTo, Owning.IsCopiedAt, Owning.IsOwn, declared.Wanted.Wanted}
use Rattle.snap_prelude.specs.{Among, Epoch, IsKnown, IsOlder, IsTilt, Known, link_field, Side, View}

-- where a row of this epoch is wanted
abbrev pub wanted : ℕ → Side → ℕ → Wanted
wanted parent side epoch = record { parent = parent; side = side; epoch = epoch }

-- the child is of the epoch that the call loaded
abbrev pub IsOwnNow : Known → Known → ℕ → Side → ℕ → Type 0
IsOwnNow old new parent side child =
    (epoch : ℕ) × IsOwn old new (Epoch epoch ∷ []) (wanted parent side epoch) child

-- the child is of this epoch: the pass knows all that it knew, but where the link leads
pub record OwnsLower (rows : ℕ) (old new : Known) (parent : ℕ) (side : Side)
    (child : ℕ) : Type 0 where
  pub firm : Firm old new (λ q f. (q ≡ parent) × (f ≡ link_field side))
  pub holds : new.view.holds ≡ old.view.holds
  pub leads : IsKnown new.view.words.knows parent (link_field side) child
  pub low : child ≤ rows
  pub is_row : child ≢ 0
  pub reached : Among child new.view.trail.reached
  -- no row was drawn, or one for a child of an earlier epoch, and it was linked
  pub owns : IsOwnNow old new parent side child ⊎ IsCopiedAt old new None parent side child

-- a rotation wants the child there as one of this epoch, and it is of an earlier one
pub record WantsCopy (v : View) (parent : ℕ) (side : Side) : Type 0 where
  pub child : ℕ
  pub child_is : IsKnown v.words.knows parent (link_field side) child
  pub older : IsOlder v child
  pub upper : ℕ
  pub tilt : IsTilt v upper parent side

-- the child is of an earlier epoch, and this call found that every row was handed out. Nothing has
-- changed
pub record LacksRows (rows : ℕ) (old new : Known) (parent : ℕ) (side : Side)
    (found : ℕ) : Type 0 where
  pub mends : MendsTo true old new
  pub holds : new.view.holds ≡ old.view.holds
  pub wants : WantsCopy new.view parent side
  pub all : found ≡ rows
  pub full : rows ≤ new.view.noted.handed
