-- The fields of a record.
use Rattle.std.proofs.Common.{◌≡◌, ◌≢◌, ℕ, List, [], ◌∷◌, Some, None, length, arith}
use Rattle.csv.specs.Records.{field_at}
use Rattle.snap_text.specs.Loads.{Fields}

pub no_first : (fields : Fields) → None ≡ field_at fields 0 → length fields ≢ 2
unfolding field_at
no_first [] e = λ two. omega (arith, two)
no_first (a ∷ fields) e = absurd (cc e)

pub no_second : (fields : Fields) → None ≡ field_at fields 1 → length fields ≢ 2
unfolding field_at
no_second [] e = λ two. omega (arith, two)
no_second (a ∷ []) e = λ two. omega (arith, two)
no_second (a ∷ b ∷ fields) e = absurd (cc e)

same_field : (a b : List ℕ) → Some a ≡ Some b → b ≡ a
same_field a b e = cc e

pub two : (fields : Fields) (a b : List ℕ) → length fields ≡ 2 → Some a ≡ field_at fields 0 → Some b ≡ field_at fields 1 → fields ≡ a ∷ b ∷ []
unfolding field_at
two [] a b n p q = absurd (omega (arith, n))
two (x ∷ []) a b n p q = absurd (omega (arith, n))
two (x ∷ y ∷ []) a b n p q = λ i. same_field a x p i ∷ same_field b y q i ∷ []
two (x ∷ y ∷ z ∷ fields) a b n p q = absurd (omega (arith, n))
