-- Planned failures: calls of one kind are counted, and those with chosen numbers fail.
use Rattle.std.specs.Prelude.{ℕ, ◌==◌, Bool, List, [], ◌∷◌, ◌++◌}
use Rattle.std.specs.List.{list_any}
use Rattle.snap_io.specs.Causes.{raised}

-- how many calls were made, and the numbers of those that fail
pub record Planned : Type 0 where
  pub made : ℕ
  pub failing : List ℕ

-- no call was made, and none is to fail
abbrev pub no_plan : Planned
no_plan = record { made = 0; failing = [] }

-- the n-th call is to fail, too
abbrev pub with_number : ℕ → Planned → Planned
with_number n plan = record plan { failing = plan.failing ++ n ∷ [] }

-- one more call was made
abbrev pub with_call : Planned → Planned
with_call plan = record plan { made = raised plan.made }

-- the call that comes next fails
abbrev pub fails_next : Planned → Bool
fails_next plan = list_any (λ n. n == raised plan.made) plan.failing
