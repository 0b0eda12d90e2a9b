-- What the tour's calls conclude from the map's contracts.
use Rattle.std.specs.Prelude.{◌≡◌, ◌≢◌, ℕ, ◌<◌, List, [], ◌∷◌, ◌++◌, Option, Some, map, length}
use Rattle.snap_model.specs.History.{told}
use Rattle.snap_prelude.specs.{after, at, Begins, Call, call_key, calls_of}
use Rattle.snap_prelude.specs.{Cloned, Ended, Entry, Extends, IsLegal, Known, Laid, Put, Remove}
use Rattle.snap_search.specs.Prelude.{Reads}
use Rattle.snap_table.specs.{Calls.Replies, Ready.IsReadyTo}
use Rattle.map_tour.specs.{declared.calls.Keys.Keys, declared.calls.Worked.Worked}

-- no entry of this history is at the key
abbrev pub Spares : ℕ → List Entry → Type 0
Spares key [] = Unit {0}
Spares key (e ∷ es) = (key ≢ call_key e.call) × Spares key es

-- the calls that the pass has made, in their order
abbrev pub calls_made : Known → List Call
calls_made pass = map (λ (e : Entry). e.call) pass.view.mine

-- the pass's put of this value stands in what it has seen, and the answer is that of the map after
-- this: the value, unless another entry at the key came behind the put
pub record ReadsOwn (pass : Known) (key value : ℕ) (answer : Option ℕ) : Type 0 where
  pub before : List Entry
  pub own : Entry
  pub since : List Entry
  pub seen : pass.view.seen ≡ before ++ own ∷ since
  pub who : own.who ≡ pass.view.who
  pub puts : own.call ≡ Put key value
  pub tells : answer ≡ told pass.view.seen key
  pub alone : Spares key since → answer ≡ Some value

-- the put is made, and behind it the key is read
abbrev pub ReadsBehindPut : (old new : Known) → (key value : ℕ) → Option ℕ → Type 0
ReadsBehindPut old new key value answer = (mid : Known) × (reply : Option ℕ)
    × Replies old mid (Put key value) reply × Reads mid new key answer

abbrev pub odd_keys : Keys
odd_keys = record { kept = 1; gone = 3; read = 5 }

abbrev pub even_keys : Keys
even_keys = record { kept = 2; gone = 4; read = 6 }

-- one thread's work is done: these are its calls, and it has read its own last put
pub record HasWorked (table : Laid) (pass : Known) (keys : Keys) (done : Worked) : Type 0 where
  pub ready : IsReadyTo table pass.view.who 4 done.pass
  pub made : calls_made done.pass ≡ calls_made pass
      ++ Put keys.kept 10 ∷ Put keys.gone 20 ∷ Remove keys.gone ∷ Put keys.read 30 ∷ []
  pub own : ReadsOwn done.pass keys.read 30 done.answer

-- a clone answers as the map stood when it was made: behind all that the pass had seen and done,
-- and before what it did since
pub record AnswersAsItStood (old new : Known) (clone : Cloned) (key : ℕ) (answer : Option ℕ)
    : Type 0 where
  pub extends : Extends old.view clone.base
  pub earlier : Begins clone.base new.view.seen
  pub tells : answer ≡ at (after clone.base) key

-- a closed table of two passes: one legal history, which has the entries of the two and no other
pub record TellsBoth (first second : Known) (front : Ended) : Type 0 where
  pub history : List Entry
  pub legal : IsLegal history
  pub of_first : calls_of history 0 ≡ first.view.mine
  pub of_second : calls_of history 1 ≡ second.view.mine
  pub others : (i : ℕ) → 1 < i → calls_of history i ≡ []
  pub writes : front.writes ≡ length history
  pub pairs : front.pairs ≡ length (after history)
