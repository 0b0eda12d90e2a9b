-- A sorted map: pairs of a key and a value whose keys strictly rise, and the answers that are read
-- off it.
use Rattle.std.specs.Prelude.{◌<◌, ℕ, ◌==◌, ◌&&◌, nat_lt, nat_le, not, List, [], ◌∷◌, ◌++◌, Option, Some, None, AllPairs, filter, length, if◌then◌else◌}

abbrev pub Pairs : Type 0
Pairs = List (ℕ × ℕ)

-- the keys strictly rise
abbrev pub IsSortedMap : Pairs → Type 0
IsSortedMap m = AllPairs (λ p q. p.0 < q.0) m

-- the value at a key, or none
abbrev pub at : Pairs → ℕ → Option ℕ
at [] k = None
at (p ∷ m) k = if p.0 == k then Some p.1 else at m k

-- the map with the key set to the value
abbrev pub after_put : Pairs → ℕ → ℕ → Pairs
after_put m k v = filter (λ p. nat_lt p.0 k) m ++ (k, v) ∷ filter (λ p. nat_lt k p.0) m

-- the map without the key
abbrev pub after_remove : Pairs → ℕ → Pairs
after_remove m k = filter (λ p. not (p.0 == k)) m

abbrev pub first_pair : Pairs → Option (ℕ × ℕ)
first_pair [] = None
first_pair (p ∷ m) = Some p

abbrev pub last_pair : Pairs → Option (ℕ × ℕ)
last_pair [] = None
last_pair (p ∷ []) = Some p
last_pair (p ∷ q ∷ m) = last_pair (q ∷ m)

-- the pairs with lo ≤ key ≤ hi
abbrev pub range : Pairs → ℕ → ℕ → Pairs
range m lo hi = filter (λ p. nat_le lo p.0 && nat_le p.0 hi) m

-- how many these are
abbrev pub count : Pairs → ℕ → ℕ → ℕ
count m lo hi = length (range m lo hi)

-- the last pair with a key of at most k
abbrev pub floor : Pairs → ℕ → Option (ℕ × ℕ)
floor m k = last_pair (filter (λ p. nat_le p.0 k) m)

-- the last pair with a key below k
abbrev pub lower : Pairs → ℕ → Option (ℕ × ℕ)
lower m k = last_pair (filter (λ p. nat_lt p.0 k) m)

-- the first pair with a key of at least k
abbrev pub ceiling : Pairs → ℕ → Option (ℕ × ℕ)
ceiling m k = first_pair (filter (λ p. nat_le k p.0) m)

-- the first pair with a key above k
abbrev pub higher : Pairs → ℕ → Option (ℕ × ℕ)
higher m k = first_pair (filter (λ p. nat_lt k p.0) m)
