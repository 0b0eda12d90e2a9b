-- Counts of faults, and the causes of a failure. A count begins at 0, never falls, and stands still
-- at its type's end.
use Rattle.std.specs.Prelude.{ℕ, ◌+◌, ◌-◌, ◌^◌, ◌≤◌, ◌⊎◌, Bool, Result, OnErr, min, if◌then◌else◌}

-- one more, but no more than a count's end
abbrev pub raised : ℕ → ℕ
raised count = min (count + 1) (2 ^ 64 - 1)

-- the count after a call that was a fault or not
abbrev pub raised_if : Bool → ℕ → ℕ
raised_if fault count = if fault then raised count else count

-- the count rose, or stands at its end
abbrev pub Rose : ℕ → ℕ → Type 0
Rose before now = raised before ≤ now

-- what became of a count in a call that fails only where it rose, or for one other cause
pub record HasCauseOr {T E : Type 0} (other : Type 0) (before now : ℕ)
    (result : Result T E) : Type 0 where
  pub later : before ≤ now
  pub within : before ≤ 2 ^ 64 - 1 → now ≤ 2 ^ 64 - 1
  pub failed : OnErr result (Rose before now ⊎ other)

-- the same with no other cause
pub record HasCause {T E : Type 0} (before now : ℕ) (result : Result T E) : Type 0 where
  pub later : before ≤ now
  pub within : before ≤ 2 ^ 64 - 1 → now ≤ 2 ^ 64 - 1
  pub failed : OnErr result (Rose before now)
