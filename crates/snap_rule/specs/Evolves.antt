-- How a table changes from one moment to any later one, as far as it matters to the readers of
-- other passes. Every kind of step evolves the table; what is said of a reader is kept by all that
-- evolves, and so proved once and not for each kind.
use Rattle.std.specs.Prelude.{None, ℕ, ◌/◌, ◌≡◌, ◌≢◌, ◌≤◌}
use Rattle.snap_model.specs.History.{Begins, told}
use Rattle.snap_stamp.specs.Stamps.{IsUnlinked, IsUnmarked}
use Rattle.snap_stamp.specs.declared.side.Side.{Side}
use Rattle.snap_rule.specs.Position.{IsPlaced}
use Rattle.snap_rule.specs.State.{In, IsShared, State, WasLinked}
use Rattle.snap_rule.specs.Tree.{OnWay, value_word}

-- the words of a row are the same, but for its lock
pub record SameRow (s s' : State) (n : ℕ) : Type 0 where
  pub key : s'.key n ≡ s.key n
  pub birth : s'.birth n ≡ s.birth n
  pub stamp : s'.stamp n ≡ s.stamp n
  pub height : s'.height n ≡ s.height n
  pub value : s'.value n ≡ s.value n
  pub link : (d : Side) → s'.link n d ≡ s.link n d

pub record Evolves (s s' : State) : Type 0 where
  -- what only grows, and what stays
  pub history : Begins s.history s'.history
  pub linked : (n : ℕ) → In n s.linked → In n s'.linked
  pub epoch : s.epoch ≤ s'.epoch
  pub key : (n : ℕ) → In n s.linked → s'.key n ≡ s.key n
  pub birth : (n : ℕ) → In n s.linked → s'.birth n ≡ s.birth n
  -- a stamp only grows as a number, so one that a row has left it never has again
  pub stamp : (n : ℕ) → WasLinked s n → s.stamp n ≤ s'.stamp n
  -- an unshared row on the way to k is a position for k as long as it keeps its stamp, if that has
  -- no mark
  pub place : (n k : ℕ) → OnWay s.tree k n → ¬ IsShared s n → IsUnmarked (s.stamp n)
      → s'.stamp n ≡ s.stamp n → IsPlaced s' s'.history n k
  -- a shared row keeps its words
  pub shared : (n : ℕ) → In n s.linked → IsShared s n → SameRow s s' n
  -- a row that comes to be unlinked has no value, its key is absent then, and its value word stays
  pub unlinked : (n : ℕ) → In n s.linked → ¬ IsUnlinked (s.stamp n) → IsUnlinked (s'.stamp n)
      → (s'.value n ≡ 0) × (told s'.history (s.key n) ≡ None)
  pub gone : (n : ℕ) → In n s.linked → IsUnlinked (s.stamp n) → s'.value n ≡ s.value n
  -- a value word that changes tells what the map then has
  pub value : (n : ℕ) → In n s.linked → s'.value n ≢ s.value n
      → s'.value n ≡ value_word (told s'.history (s.key n))
  -- the number of writes entered never falls; where it stays and no pass is in a write, none comes
  -- to be in one, and where no pass is in a write the rows keep all their words
  pub entered : s.gate / 2 ≤ s'.gate / 2
  pub none_enters : s'.gate / 2 ≡ s.gate / 2 → s.writers ≡ 0 → s'.writers ≡ 0
  pub quiet : s.writers ≡ 0 → (n : ℕ) → WasLinked s n → SameRow s s' n × (s'.lock n ≡ s.lock n)
