-- The part of the rule on the epoch that a write has loaded.
use Rattle.std.specs.Prelude.{◌≡◌, ℕ, List, [], ◌∷◌}
use Rattle.snap_steps.specs.Stages.{in_write}
use Rattle.snap_steps.specs.declared.view.View.{View}

-- what was loaded as the epoch is it
abbrev pub AllAre : ℕ → List ℕ → Type 0
AllAre e [] = Unit {0}
AllAre e (x ∷ xs) = (x ≡ e) × AllAre e xs

-- what was loaded as the epoch in this write is it
abbrev pub KnowsEpoch : ℕ → View → Type 0
KnowsEpoch e v = AllAre e v.words.present × (in_write v.stage ≡ 0 → v.words.present ≡ [])
