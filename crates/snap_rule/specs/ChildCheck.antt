-- The child check: what is known of the row that a link named. The child's stamp is loaded, then
-- the link and the row's own stamp once more; what is known by then holds whatever happens to the
-- child afterwards.
use Rattle.std.specs.Prelude.{List, None, ℕ, ◌≡◌}
use Rattle.snap_model.specs.History.{told}
use Rattle.snap_model.specs.declared.call.Entry.{Entry}
use Rattle.snap_rule.specs.Moments.{AtSome}
use Rattle.snap_rule.specs.Position.{IsPlaced, IsRecorded}
use Rattle.snap_rule.specs.State.{In, State}
use Rattle.snap_rule.specs.Tree.{value_word}

-- k was absent at some moment
abbrev pub WasAbsent : State → List Entry → ℕ → Type 0
WasAbsent s seen k = AtSome seen s.history (λ p. told p k ≡ None)

-- c's value word is what the map had at k at some moment
abbrev pub HasTold : State → List Entry → ℕ → ℕ → Type 0
HasTold s seen c k = AtSome seen s.history (λ p. s.value c ≡ value_word (told p k))

-- c was linked, and w was loaded as its stamp, without a mark
pub record IsChild (s : State) (c w : ℕ) : Type 0 where
  pub linked : In c s.linked
  pub stamp : IsRecorded s c w

-- c has no value, and its key was absent at some moment
pub record IsGone (s : State) (seen : List Entry) (c : ℕ) : Type 0 where
  pub no_value : s.value c ≡ 0
  pub absent : WasAbsent s seen (s.key c)

-- c is where the search for k goes on, as long as it has the stamp w; and if its key is k, its
-- value word is the answer
pub record IsCandidate (s : State) (seen : List Entry) (k c w : ℕ) : Type 0 where
  pub placed : s.stamp c ≡ w → IsPlaced s seen c k
  pub tells : s.key c ≡ k → HasTold s seen c k
