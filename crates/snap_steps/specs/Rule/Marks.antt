-- The part of the rule on the shrinking marks: they are those of the rows that passes are lowering.
use Rattle.std.specs.Prelude.{◌≡◌, ℕ, List}
use Rattle.snap_rule.specs.declared.change.Doing.{Doing}
use Rattle.snap_rule.specs.declared.change.Doing.TheVariants.{Nothing, Unlinked, Shrunk, Lowered, Lifted, Turned}
use Rattle.snap_stamp.specs.Stamps.{IsShrinking}
use Rattle.snap_steps.specs.Counting.{one_if, total}
use Rattle.snap_steps.specs.Memory.{Row, row}
use Rattle.snap_steps.specs.declared.view.View.{View}

-- whether the change is lowering the row
abbrev pub lowers : ℕ → Doing → ℕ
lowers n Nothing = 0
lowers n (Unlinked p e row only) = 0
lowers n (Shrunk p q row e raised) = one_if n row
lowers n (Lowered p q row e raised) = one_if n row
lowers n (Lifted p q row e raised) = one_if n row
lowers n (Turned row) = one_if n row

-- a row that no pass is lowering has no shrinking mark
abbrev pub AreMarked : List Row → List View → Type 0
AreMarked rows views =
    (n : ℕ) → total (λ v. lowers n v.doing) views ≡ 0 → ¬ IsShrinking (row rows n).stamp
