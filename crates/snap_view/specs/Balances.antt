-- Whether a clone's tree is settled, as its view tells it.
use Rattle.std.specs.Prelude.{◌≡◌, ℕ, ◌<◌, ◌≤◌, true, ◌∷◌, Option, Some, None}
use Rattle.snap_prelude.specs.{Cloned, depth, image, IsSettledTree, top_height, Tree}
use Rattle.snap_view.specs.declared.balance.Settled.{Settled}
use Rattle.snap_view.specs.declared.balance.Settled.TheVariants.{Yes, RowsOut, StampOut}

-- the height of a settled tree, or none for one that is not settled or has more levels than these
abbrev pub IsHeightOf : Tree → (levels : ℕ) → Option ℕ → Type 0
IsHeightOf t levels (Some h) = IsSettledTree t × (h ≡ top_height t)
IsHeightOf t levels None = IsSettledTree t → levels < depth t

-- the view, once it has found this row's stamp at its greatest count
abbrev pub with_out : Cloned → ℕ → Cloned
with_out c row = record c { worn = true; outworn = row ∷ c.outworn }

-- the tree is settled; or it is not, and every row was handed out when the clone was cut; or it is
-- not, rows were left then, and the call has found the stamp of this row, which was handed out, at
-- its greatest count
abbrev pub TellsBalance : Cloned → Cloned → Settled → Type 0
TellsBalance old new Yes = IsSettledTree (image old) × (new ≡ old)
TellsBalance old new (RowsOut rows) =
    (¬ IsSettledTree (image old)) × (old.next ≡ old.rows) × (rows ≡ old.rows) × (new ≡ old)
TellsBalance old new (StampOut row) = (¬ IsSettledTree (image old))
    × (old.next < old.rows)
    × (0 < row)
    × (row ≤ old.next)
    × (new ≡ with_out old row)
