-- What holds of each view.
use Rattle.std.specs.Prelude.{◌≡◌, ℕ, List}
use lib.ListN.{get_elem?}
use mathlib.Core.Option.{some}
use Rattle.snap_steps.specs.declared.view.View.{View}

abbrev pub Each : (View → Type 0) → List View → Type 0
Each P views = (j : ℕ) (v : View) → get_elem? views j ≡ some v → P v
