-- The part of the rule on uses, by which no header word comes near its end.
use Rattle.std.specs.Prelude.{◌*◌, ◌^◌, ◌≤◌, length, ℕ, ◌+◌, ◌/◌, List, [], ◌∷◌}
use Rattle.snap_steps.specs.Counting.{total}
use Rattle.snap_steps.specs.Roles.{own_number}
use Rattle.snap_steps.specs.Numbers.{all_uses}
use Rattle.snap_steps.specs.declared.view.Admitted.{Admitted}
use Rattle.snap_steps.specs.declared.view.View.{View}
use Rattle.snap_steps.specs.Stages.{may_cut}
use Rattle.snap_steps.specs.Each.{Each}

-- at most 2^48 for each admitted number
abbrev pub AreFew : List Admitted → Type 0
AreFew [] = Unit {0}
AreFew (a ∷ more) = (a.uses ≤ 2 ^ 48) × AreFew more

-- and for the own one
abbrev pub HasFewUses : View → Type 0
HasFewUses v = (v.uses ≤ length (own_number v.role v.who) * 2 ^ 48) × AreFew v.admitted

pub record AreUsed (gate epoch : ℕ) (views : List View) : Type 0 where
  pub enough : gate / 2 + epoch + total (λ v. may_cut v.stage) views ≤ total all_uses views
  pub few : Each HasFewUses views
