-- A count of pairs.
use Rattle.std.proofs.Common.{◌≡◌, ℕ, ◌+◌, ◌∷◌, length, ap, arith}
use Rattle.snap_view.specs.Walks.{Walked, pairs_left}

-- of so many pairs some were passed and counted, the others are left
pub record HasCounted (total found : ℕ) (left : Walked) : Type 0 where
  pub passed : ℕ
  pub all : passed + length (pairs_left left) ≡ total
  pub counted : found ≡ passed

pub counted_on : (total found : ℕ) (a b : Walked) (p : ℕ × ℕ) → HasCounted total found a → pairs_left a ≡ p ∷ pairs_left b → HasCounted total (found + 1) b
counted_on total found a b p c e = record { passed = c.passed + 1; all = omega (arith, c.all, ap length e); counted = omega (arith, c.counted) }
