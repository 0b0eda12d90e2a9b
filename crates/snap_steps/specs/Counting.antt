-- Counting: how much a list weighs, how often a number stands in it, and the list without it.
use Rattle.std.specs.Prelude.{◌<◌, ℕ, ◌+◌, List, [], ◌∷◌, ◌==◌, cond}

abbrev pub total : {A : Type 0} → (A → ℕ) → List A → ℕ
total f [] = 0
total f (x ∷ xs) = f x + total f xs

abbrev pub one_if : ℕ → ℕ → ℕ
one_if x y = cond (x == y) 1 0

abbrev pub times : ℕ → List ℕ → ℕ
times x [] = 0
times x (y ∷ ys) = one_if x y + times x ys

-- the number stands in the list
abbrev pub Among : ℕ → List ℕ → Type 0
Among x l = 0 < times x l

abbrev pub removed : ℕ → List ℕ → List ℕ
removed r [] = []
removed r (x ∷ xs) = cond (x == r) (removed r xs) (x ∷ removed r xs)
