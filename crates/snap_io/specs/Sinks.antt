-- What a sink was given so far.
use Rattle.std.specs.Prelude.{◌≡◌, ◌++◌, ℕ, List, Option, Some, None, Result, MatchResult, ⊤, take}

-- told bytes have grown by the new ones, or after a failure by a prefix of them; whether they are
-- told stays
abbrev pub Puts : {T E : Type 0} → Option (List ℕ) → Option (List ℕ) → List ℕ → Result T E → Type 0
Puts None None bytes result = ⊤
Puts None (Some new) bytes result = ⊥
Puts (Some old) None bytes result = ⊥
Puts (Some old) (Some new) bytes result =
    MatchResult result (λ _. new ≡ old ++ bytes) (λ _. (k : ℕ) × (new ≡ old ++ take k bytes))
