-- A search that passes the keys without a value.
use Rattle.std.proofs.Common.{◌≡◌, ℕ, ◌+◌, ◌-◌, ◌<◌, ◌^◌, ◌⊎◌, inl, inr, Option, Some, None, sym, subst, arith}
use Rattle.snap_prelude.proofs.Common.{dec_lt, dite}
use Rattle.snap_prelude.specs.{after, at, Cloned, Left, Right, Side, Toward}
use Rattle.snap_view.specs.Nearest.{Reaches, IsNearest, IsNearestAt, IsBehind}

-- how many keys lie ahead
abbrev pub keys_ahead : Side → Option ℕ → ℕ
keys_ahead side None = 0
keys_ahead Left (Some key) = key + 1
keys_ahead Right (Some key) = 2 ^ 64 - key

-- from `from` on to the next key, none has a value
pub record HasPassedTo (has : ℕ → Option ℕ) (side : Side) (from next : ℕ) : Type 0 where
  pub ahead : Reaches side from next
  pub fits : next < 2 ^ 64
  pub none : (k : ℕ) → Reaches side from k → Toward side next k → has k ≡ None

abbrev pub HasPassed : (ℕ → Option ℕ) → Side → ℕ → Option ℕ → Type 0
HasPassed has side from None = (k : ℕ) → k < 2 ^ 64 → Reaches side from k → has k ≡ None
HasPassed has side from (Some next) = HasPassedTo has side from next

pub passed_none : (has : ℕ → Option ℕ) (side : Side) (from : ℕ) → from < 2 ^ 64 → HasPassed has side from (Some from)
passed_none has Left from fits = record { ahead = omega arith; fits = fits; none = λ k l t. absurd (omega arith) }
passed_none has Right from fits = record { ahead = omega arith; fits = fits; none = λ k l t. absurd (omega arith) }

either_side : (side : Side) (key k : ℕ) → Toward side key k ⊎ Reaches side key k
either_side Left key k = dite (dec_lt key k) (λ l. inl l) (λ nl. inr (omega arith))
either_side Right key k = dite (dec_lt k key) (λ l. inl l) (λ nl. inr (omega arith))

module _ (has : ℕ → Option ℕ) (side : Side) (from key : ℕ) (passed : HasPassedTo has side from key) where
  -- up to a nearest key
  none_up_to : (row : ℕ) (value : Option ℕ) → IsNearestAt has side key row value → (k : ℕ) → Reaches side from k → Toward side row k → has k ≡ None
  none_up_to row value near k l t = elim (either_side side key k) [
    | inl b ↦ passed.none k l b
    | inr r ↦ near.nearer k r t
  ]

  -- and up to a row without a value
  none_to : (row : ℕ) → IsNearest has side key (Some (row, None)) → (k : ℕ) → Reaches side from k → (k ≡ row) ⊎ Toward side row k → has k ≡ None
  none_to row near k l (inl e) = subst (λ (j : ℕ). has j ≡ None) (sym e) near.is
  none_to row near k l (inr t) = none_up_to row None near k l t

-- so it goes on behind that row
pub passed_on : (has : ℕ → Option ℕ) (side : Side) (from key : ℕ) → HasPassedTo has side from key → (row : ℕ) (next : Option ℕ) → IsNearest has side key (Some (row, None)) → IsBehind side row next → HasPassed has side from next
passed_on has Left from key passed row None near e = λ k small l. none_to has Left from key passed row near k l (dite (dec_lt row k) (λ t. inr t) (λ nt. inl (omega arith)))
passed_on has Right from key passed row None near e = λ k small l. none_to has Right from key passed row near k l (dite (dec_lt k row) (λ t. inr t) (λ nt. inl (omega arith)))
passed_on has Left from key passed row (Some next) near e = record {
  ahead = omega (arith, passed.ahead, near.lies);
  fits = omega (arith, passed.fits, near.lies);
  none = λ k l t. none_to has Left from key passed row near k l (dite (dec_lt row k) (λ u. inr u) (λ nu. inl (omega arith)));
}
passed_on has Right from key passed row (Some next) near e = record {
  ahead = omega (arith, passed.ahead, near.lies, e.0);
  fits = e.1;
  none = λ k l t. none_to has Right from key passed row near k l (dite (dec_lt k row) (λ u. inr u) (λ nu. inl (omega arith)));
}

pub fewer_ahead : (has : ℕ → Option ℕ) (side : Side) (key row : ℕ) (value next : Option ℕ) → key < 2 ^ 64 → IsNearest has side key (Some (row, value)) → IsBehind side row next → keys_ahead side next < keys_ahead side (Some key)
fewer_ahead has Left key row value None fits near e = omega arith
fewer_ahead has Right key row value None fits near e = omega arith
fewer_ahead has Left key row value (Some next) fits near e = omega (arith, near.lies)
fewer_ahead has Right key row value (Some next) fits near e = omega (arith, near.lies)

-- one turn of such a search, while the clone stays as it was: a row was met from the key on, and it goes on behind that
module _ (now met : Cloned) (side : Side) (from key row : ℕ) (value reached next : Option ℕ) (same : met ≡ now) (is : reached ≡ Some key) (passed : HasPassed (at (after now.base)) side from reached) (near : IsNearest (at (after met.base)) side key (Some (row, value))) (behind : IsBehind side row next) where
  abbrev has : ℕ → Option ℕ
  has = at (after now.base)

  passed_to : HasPassedTo has side from key
  passed_to = subst (HasPassed has side from) is passed

  nearest : IsNearest has side key (Some (row, value))
  nearest = subst (λ (k : Cloned). IsNearest (at (after k.base)) side key (Some (row, value))) same near

  pub turn_fewer : keys_ahead side next < keys_ahead side reached
  turn_fewer = subst (λ (o : Option ℕ). keys_ahead side next < keys_ahead side o) (sym is) (fewer_ahead has side key row value next passed_to.fits nearest behind)

  -- where the row has no value
  pub turn_passed : value ≡ None → HasPassed (at (after now.base)) side from next
  turn_passed none = passed_on has side from key passed_to row next (subst (λ (o : Option ℕ). IsNearest has side key (Some (row, o))) none nearest) behind
