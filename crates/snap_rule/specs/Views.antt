-- What the passes know, each for itself, and what the step of one leaves to the others. A view is
-- what one pass knows: the history that it has seen, its way to a key, its call of `try_get`, and
-- its change.
use Rattle.std.specs.Prelude.{List, None, Option, Some, [], suc, zero, ℕ, ◌+◌, ◌/◌, ◌<◌, ◌∷◌, ◌≡◌, ◌≢◌}
use Rattle.snap_model.specs.History.{Begins}
use Rattle.snap_model.specs.declared.call.Entry.{Entry}
use Rattle.snap_rule.specs.Doing.{Apart, Concerns, DoingOk}
use Rattle.snap_rule.specs.Quiescence.{CalmOk, QuietOk}
use Rattle.snap_rule.specs.Reader.{PointOk}
use Rattle.snap_rule.specs.Rule.{TableOk}
use Rattle.snap_rule.specs.State.{State, WasLinked}
use Rattle.snap_rule.specs.declared.change.Doing.{Doing}
use Rattle.snap_rule.specs.declared.quiescence.Trying.{Trying}
use Rattle.snap_rule.specs.declared.quiescence.Trying.TheVariants.{Idle, Since, Troubled}
use Rattle.snap_rule.specs.declared.reader.Reading.{Reading}
use Rattle.snap_rule.specs.declared.reader.Reading.TheVariants.{On, Resting}

pub record View : Type 0 where
  pub who : ℕ
  pub seen : List Entry
  pub reads : Reading
  pub tries : Trying
  pub doing : Doing

-- what is known on a way
abbrev pub ReadingOk : State → List Entry → Reading → Type 0
ReadingOk s seen Resting = Unit {0}
ReadingOk s seen (On k t) = PointOk s seen k t

-- what is known in a call of `try_get`
abbrev pub TryingOk : State → Trying → Type 0
TryingOk s Idle = Unit {0}
TryingOk s (Since ended l low high c) = QuietOk s ended l × CalmOk s ended low high c
TryingOk s (Troubled ended) = ended < s.gate / 2

-- what is known of one pass, which holds the rows of its change
pub record ViewOk (s : State) (v : View) : Type 0 where
  pub seen : Begins v.seen s.history
  pub reads : ReadingOk s v.seen v.reads
  pub tries : TryingOk s v.tries
  pub doing : DoingOk s v.doing
  pub held : (n : ℕ) → Concerns v.doing n → s.lock n ≡ v.who + 1

-- the view at a seat, and another view put there
abbrev pub at_seat : List View → ℕ → Option View
at_seat [] j = None
at_seat (v ∷ vs) zero = Some v
at_seat (v ∷ vs) (suc j) = at_seat vs j

abbrev pub with_seat : List View → ℕ → View → List View
with_seat [] j w = []
with_seat (v ∷ vs) zero w = w ∷ vs
with_seat (v ∷ vs) (suc j) w = v ∷ with_seat vs j w

-- the rule holds: the parts that speak of no pass, each view, and no two passes have one number
pub record HoldsFor (s : State) (views : List View) : Type 0 where
  pub table : TableOk s
  pub each : (j : ℕ) (u : View) → at_seat views j ≡ Some u → ViewOk s u
  pub alone : (i j : ℕ) (u v : View) → at_seat views i ≡ Some u → at_seat views j ≡ Some v
      → u.who ≡ v.who → i ≡ j

-- the step of pass `who` leaves each row alone that another pass holds, and its lock
abbrev pub LeavesOthers : State → State → ℕ → Type 0
LeavesOthers s s' who = (n : ℕ) → WasLinked s n → s.lock n ≢ 0 → s.lock n ≢ who + 1
    → Apart s s' n × (s'.lock n ≡ s.lock n)
