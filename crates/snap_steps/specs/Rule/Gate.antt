-- The part of the rule on the gate: how many writes were entered, and who closes it.
use Rattle.std.specs.Prelude.{◌≡◌, ℕ, ◌+◌, ◌*◌, ◌<◌, ◌≤◌, List}
use Rattle.snap_steps.specs.declared.view.Stage.{Stage}
use Rattle.snap_steps.specs.declared.view.Stage.TheVariants.{Idle, Writing, Closing}
use Rattle.snap_steps.specs.Counting.{total}
use Rattle.snap_steps.specs.Stages.{in_write, is_closing, is_quiet}
use Rattle.snap_steps.specs.declared.view.View.{View}
use Rattle.snap_steps.specs.Each.{Each}

-- a closing pass knows the gate
abbrev pub KnowsGate : ℕ → Stage → Type 0
KnowsGate gate Idle = Unit {0}
KnowsGate gate (Writing made counted) = Unit {0}
KnowsGate gate (Closing g quiet cut) = g ≡ gate

-- twice the writes entered, plus 1 while closed
pub record IsGated (gate left : ℕ) (views : List View) : Type 0 where
  pub half : gate
      ≡ 2 * (left + total (λ v. in_write v.stage) views) + total (λ v. is_closing v.stage) views
  pub one : total (λ v. is_closing v.stage) views ≤ 1
  pub at : Each (λ v. KnowsGate gate v.stage) views
  pub quiet : 0 < total (λ v. is_quiet v.stage) views → total (λ v. in_write v.stage) views ≡ 0
