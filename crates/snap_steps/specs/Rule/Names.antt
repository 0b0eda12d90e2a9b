-- The part of the rule on numbers: passes, receipts and admitted numbers are different, and below
-- the number of passes.
use Rattle.std.specs.Prelude.{ℕ, ◌≡◌, ◌≤◌, List, []}
use Rattle.snap_steps.specs.Counting.{times, total}
use Rattle.snap_steps.specs.Numbers.{numbers}
use Rattle.snap_steps.specs.declared.view.View.{View}
use Rattle.snap_steps.specs.Roles.{is_opening, is_counted}
use Rattle.snap_steps.specs.declared.view.Role.TheVariants.{Opening}
use Rattle.snap_steps.specs.Each.{Each}
use Rattle.snap_steps.specs.declared.view.Stage.TheVariants.{Idle}

-- passes, receipts and admitted numbers are different numbers below `passes`
abbrev pub names : ℕ → View → ℕ
names i v = times i (numbers v)

pub record AreNamed (passes : ℕ) (views : List View) : Type 0 where
  pub once : (i : ℕ) → total (names i) views ≤ 1
  pub below : (i : ℕ) → passes ≤ i → total (names i) views ≡ 0
  -- whoever hands out passes has not handed out the number that it names, nor a greater one
  pub one_opener : total (λ v. is_opening v.role) views ≤ 1
  pub unissued : Each
      (λ v. v.role ≡ Opening → (i : ℕ) → v.who ≤ i → total (names i) views ≡ 0) views

-- who is no pass is idle, has cut nothing and drawn nothing
abbrev pub ActsAsPass : View → Type 0
ActsAsPass v = is_counted v.role ≡ 0 → (v.stage ≡ Idle) × (v.cuts ≡ []) × (v.drawn ≡ [])
