-- What a worker begins with, what it hands over, and what the closed tables make of it.
use Rattle.std.specs.Prelude.{◌≡◌, ◌<◌, ◌≤◌, ◌+◌, ◌*◌, ◌^◌, ℕ, List, [], ◌∷◌, length, map}
use Rattle.snap_fits.specs.Fits.{Fits, Front, Setting, Told}
use Rattle.snap_prelude.specs.{Command, Ended, Known, Pairs, Reply}
use Rattle.snap_text.specs.{declared.script.Line.Line, LoadFiles.Loads}
use Rattle.snap_service.specs.Prelude.{AreSeated, CanRunAll, fronts_of, HasServed}
use Rattle.snap_service.specs.Prelude.{most_uses, pass_at, Serves, setting, SessionState, Tables}
use Rattle.snap_desk.specs.Answers.{Answered}
use Rattle.snap_crew.specs.Answers.{AreOf, AreTold}

-- the commands of a script
abbrev pub script_commands : List Line → List Command
script_commands lines = map (λ line. line.command) lines

-- a session of worker w that has run nothing, and commands that it can run
pub record CanWork (loads : Loads) (w : ℕ) (s : SessionState)
    (commands : List Command) : Type 0 where
  pub begins : HasServed loads w [] [] [] s
  pub can : CanRunAll s loads commands
  pub few : most_uses s.passes + length commands * 2 ^ 22 ≤ 2 ^ 47

-- each command was run in its turn: by the state that the one before it left, with its own reply
abbrev pub ServesAll : Loads → SessionState → List Command → List Reply → SessionState → Type 0
ServesAll loads a [] [] b = b ≡ a
ServesAll loads a (c ∷ cs) (r ∷ rs) b =
    (mid : SessionState) × Serves loads a c r mid × ServesAll loads mid cs rs b
ServesAll loads a _ _ b = ⊥

-- the session of worker w has run these commands from the first state to the last, and the answers
-- are of their replies and exports
pub record HasRun (loads : Loads) (w : ℕ) (commands : List Command) (answers : Answered)
    (first last : SessionState) : Type 0 where
  pub replies : List Reply
  pub exports : List (List ℕ × Pairs)
  pub steps : ServesAll loads first commands replies last
  pub served : HasServed loads w commands replies exports last
  pub answered : AreOf commands replies exports answers

-- worker w has run these commands from this state on, and left these passes and answers
pub record HasWorked (loads : Loads) (w : ℕ) (commands : List Command) (first : SessionState)
    (passes : List Known) (answers : Answered) : Type 0 where
  pub state : SessionState
  pub ran : HasRun loads w commands answers first state
  pub on : state.tables ≡ first.tables
  pub left : passes ≡ state.passes
  pub seated : AreSeated first.tables passes

-- the number of each of these passes
abbrev pub AreOfWorker : ℕ → List Known → Type 0
AreOfWorker w passes = (t : ℕ) → t < length passes → (pass_at passes t).view.who ≡ w

-- at the closed tables the commands of worker w fit, each with its reply at some moment, and the
-- answers tell just that
pub record HasFit (s : Setting) (fronts : ℕ → Front) (w : ℕ) (commands : List Command)
    (answers : Answered) : Type 0 where
  pub told : List Told
  pub ran : map (λ (t : Told). t.command) told ≡ commands
  pub fits : Fits s w fronts told
  pub answered : AreTold s fronts told answers

-- what worker w did that left these passes fits the closed tables
abbrev pub FitsIf : Tables → ℕ → List Known → List Ended → Type 0
FitsIf tables w passes fronts = (loads : Loads) (cs : List Command) (first : SessionState)
    (answers : Answered)
    → first.tables ≡ tables → HasWorked loads w cs first passes answers
    → HasFit (setting tables loads) (fronts_of fronts) w cs answers
