-- The part of the rule on changes in progress.
use Rattle.std.specs.Prelude.{ℕ, ◌+◌}
use Rattle.snap_rule.specs.Doing.{Concerns}
use Rattle.snap_rule.specs.declared.change.Doing.{Doing}
use Rattle.snap_rule.specs.declared.change.Doing.TheVariants.{Nothing, Unlinked, Shrunk, Lowered, Lifted, Turned}
use Rattle.snap_stamp.specs.Sides.{other}
use Rattle.snap_stamp.specs.declared.side.Side.{Side}
use Rattle.snap_steps.specs.Counting.{one_if, Among}
use Rattle.snap_steps.specs.declared.view.View.{View}
use Rattle.snap_stamp.specs.declared.side.Side.TheVariants as sides
use Rattle.snap_steps.specs.Memory.{row}

-- whether two links are the same
abbrev pub at_link : ℕ → Side → ℕ → Side → ℕ
at_link n sides.Left m sides.Left = one_if n m
at_link n sides.Left m sides.Right = 0
at_link n sides.Right m sides.Left = 0
at_link n sides.Right m sides.Right = one_if n m

-- whether the change has put another word into the link
abbrev pub changing : ℕ → Side → Doing → ℕ
changing n d Nothing = 0
changing n d (Unlinked p e row only) = at_link n d p e
changing n d (Shrunk p q row e raised) = 0
changing n d (Lowered p q row e raised) = at_link n d row e
changing n d (Lifted p q row e raised) = at_link n d row e + at_link n d raised (other e)
changing n d (Turned row) = 0

-- a pass holds the rows of the change that it is in
abbrev pub HoldsIts : View → Type 0
HoldsIts v = (n : ℕ) → Concerns v.doing n → Among n v.holds
