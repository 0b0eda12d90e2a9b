-- Quiescence begins, goes on and is kept, and trouble tells that it has ended.
use Rattle.std.specs.Prelude.{List, [], ℕ, ◌+◌, ◌/◌, ◌<◌, ◌^◌, ◌∷◌, ◌≡◌, ◌≢◌, ◌≤◌, ◌⊎◌}
use Rattle.snap_stamp.specs.Stamps.{IsUnmarked}
use Rattle.snap_stamp.specs.declared.layout.Field.{Field}
use Rattle.snap_stamp.specs.declared.side.Side.TheVariants.{Left, Right}
use Rattle.snap_rule.specs.Evolves.{Evolves}
use Rattle.snap_rule.specs.Quiescence.{CalmOk, IsCalm, QuietOk, word}
use Rattle.snap_rule.specs.Rule.{NoneWrites, TableOk}
use Rattle.snap_rule.specs.State.{In, State, WasLinked}
use Rattle.snap_rule.specs.declared.quiescence.Load.{Load}

-- a step that evolves the table keeps what a call of `try_get` knows
abbrev pub QuietKept : Type 0
QuietKept = (s s' : State) (ended : ℕ) (l : List Load) → Evolves s s' → QuietOk s ended l
    → QuietOk s' ended l

-- it begins at the load of `left`
abbrev pub QuietBegins : Type 0
QuietBegins = (s : State) → TableOk s → QuietOk s s.left []

-- each word that is loaded then is known
abbrev pub QuietLoads : Type 0
QuietLoads = (s : State) (ended n : ℕ) (f : Field) (l : List Load) → WasLinked s n
    → QuietOk s ended l → QuietOk s ended (record { row = n; field = f; found = word s n f } ∷ l)

-- below row 0 all is calm where no write is open
abbrev pub CalmBegins : Type 0
CalmBegins = (s : State) → TableOk s → NoneWrites s → CalmOk s s.left 0 (2 ^ 64) (s.link 0 Right)

-- a step that evolves the table keeps it
abbrev pub CalmKept : Type 0
CalmKept = (s s' : State) (ended low high c : ℕ) (l : List Load) → Evolves s s' → QuietOk s ended l
    → CalmOk s ended low high c
    → CalmOk s' ended low high c

-- below a child as well, within the bounds that its key sets
abbrev pub CalmGoesOn : Type 0
CalmGoesOn = (s : State) (ended low high c : ℕ) → c ≢ 0 → CalmOk s ended low high c
    → s.gate / 2 ≡ ended
    → IsUnmarked (s.stamp c) × (low ≤ s.key c) × (s.key c < high)
    × IsCalm s low (s.key c) (s.link c Left) × IsCalm s (s.key c + 1) high (s.link c Right)

-- trouble tells that a write was entered since: a load that differs from an earlier one of the
-- call, a row with a mark, a key outside the bounds
abbrev pub TroubleTells : Type 0
TroubleTells = (s : State) (ended : ℕ) (l : List Load) → QuietOk s ended l
    → ((x : Load) → In x l → word s x.row x.field ≢ x.found → ended < s.gate / 2)
    × ((low high c : ℕ) → CalmOk s ended low high c → c ≢ 0
    → ¬ IsUnmarked (s.stamp c) ⊎ (s.key c < low) ⊎ (high ≤ s.key c) → ended < s.gate / 2)
