-- What a worker's session hands over, and what the closed tables make of it.
use Rattle.std.specs.Prelude.{◌≡◌, ◌++◌, ℕ, List, [], ◌∷◌}
use Rattle.snap_fits.specs.Sessions.{Served, exported}
use Rattle.snap_prelude.specs.{Command, Known, Pairs, Reply}
use Rattle.snap_service.specs.{Courses.course, Courses.setting, Serving.CanRun, Serving.Serves, States.new_kit}
use Rattle.snap_service.specs.{States.SessionState, States.Tables}
use Rattle.snap_text.specs.LoadFiles.{Loads}

-- these commands were run by worker w's session, with these replies and exports, and whatever the
-- tables come to, they fit
abbrev pub HasServed : Loads → ℕ → List Command → List Reply → List (List ℕ × Pairs) → SessionState
    → Type 0
HasServed loads w commands replies exports s =
    Served (setting s.tables loads) w commands replies exports (course w s)

-- one command more
abbrev pub ServesOn : Loads → SessionState → Command → Reply → SessionState → Type 0
ServesOn loads a c r b = (w : ℕ) (cs : List Command) (rs : List Reply) (es : List (List ℕ × Pairs))
    → HasServed loads w cs rs es a
    → HasServed loads w (cs ++ c ∷ []) (rs ++ r ∷ []) (es ++ exported (course w a) c) b

-- each command can be run, whatever those before it reply and leave
abbrev pub CanRunAll : SessionState → Loads → List Command → Type 0
CanRunAll s loads [] = Unit {0}
CanRunAll s loads (c ∷ cs) = CanRun s loads c
    × ((r : Reply) (next : SessionState) → Serves loads s c r next → CanRunAll next loads cs)

-- no command was run yet
abbrev pub IsFresh : Tables → List Known → SessionState → Type 0
IsFresh tables kit s =
    (loads : Loads) (w : ℕ) → kit ≡ new_kit tables.laid w → HasServed loads w [] [] [] s
