-- Sorted maps by recursion: what stands above a key, and how a sorted map is built up.
use Rattle.std.proofs.Common.{◌≡◌, ℕ, zero, suc, ◌<◌, ◌≤◌, [], ◌∷◌, None, refl, inl, inr, arith}
use Rattle.std.specs.Prelude.{◌==◌, All, not, nat_lt, nat_le}
use Rattle.std.specs.List.{filter}
use Rattle.std.proofs.lemmas.List.Kept.{AllPairs-filter, AllPairs-cons}
use Rattle.std.proofs.lemmas.Bool.{cases_lt}
use Rattle.std.proofs.lemmas.Bool.Decides.{nat_tests}
use Rattle.snap_model.specs.SortedMap.{Pairs, IsSortedMap, at, after_put, after_remove}

-- each key is above k
abbrev pub Above : ℕ → Pairs → Type 0
Above k [] = Unit {0}
Above k (p ∷ m) = (k < p.0) × Above k m

pub Above-from_all : (k : ℕ) (m : Pairs) → All (λ q. k < q.0) m → Above k m
Above-from_all k [] all = tt
Above-from_all k (p ∷ m) all = (all 0 p (omega arith), Above-from_all k m (λ i d below. all (suc i) d (omega arith)))

pub all_above : (k : ℕ) (m : Pairs) → Above k m → All (λ q. k < q.0) m
all_above k [] above i d below = absurd (omega arith)
all_above k (p ∷ m) above zero d below = above.0
all_above k (p ∷ m) above (suc i) d below = all_above k m above.1 i d (omega arith)

pub Above-lower : (j k : ℕ) (m : Pairs) → j ≤ k → Above k m → Above j m
Above-lower j k [] le above = tt
Above-lower j k (p ∷ m) le above = let first = above.0 in (omega (arith, first), Above-lower j k m le above.1)

-- the rest of a sorted map is above its first key, and sorted
pub above_first : (p : ℕ × ℕ) (m : Pairs) → IsSortedMap (p ∷ m) → Above p.0 m
above_first p m sorted = Above-from_all p.0 m (λ i d below. sorted 0 (suc i) d (omega arith) (omega arith))

pub sorted_rest : (p : ℕ × ℕ) (m : Pairs) → IsSortedMap (p ∷ m) → IsSortedMap m
sorted_rest p m sorted i j d before below = sorted (suc i) (suc j) d (omega arith) (omega arith)

pub sorted_cons : (p : ℕ × ℕ) (m : Pairs) → Above p.0 m → IsSortedMap m → IsSortedMap (p ∷ m)
sorted_cons p m above sorted = AllPairs-cons (λ p q. p.0 < q.0) p m (all_above p.0 m above) sorted

-- where all keys are above k, k is absent, and each test of k tells the same of all pairs
pub record IsAllAbove (k : ℕ) (m : Pairs) : Type 0 where
  pub absent : at m k ≡ None
  pub none_below : filter (λ p. nat_lt p.0 k) m ≡ []
  pub none_up_to : filter (λ p. nat_le p.0 k) m ≡ []
  pub all_from : filter (λ p. nat_le k p.0) m ≡ m
  pub all_behind : filter (λ p. nat_lt k p.0) m ≡ m
  pub all_other : filter (λ p. not (p.0 == k)) m ≡ m

pub all_above_tells : (k : ℕ) (m : Pairs) → Above k m → IsAllAbove k m
all_above_tells k [] above = record { absent = refl; none_below = refl; none_up_to = refl; all_from = refl; all_behind = refl; all_other = refl }
all_above_tells k (p ∷ m) above =
    let first : k < p.0 = above.0 in
    let rest : IsAllAbove k m = all_above_tells k m above.1 in
    record {
      absent = grind (arith, nat_tests, rest.absent);
      none_below = grind (arith, nat_tests, rest.none_below);
      none_up_to = grind (arith, nat_tests, rest.none_up_to);
      all_from = grind (arith, nat_tests, rest.all_from);
      all_behind = grind (arith, nat_tests, rest.all_behind);
      all_other = grind (arith, nat_tests, rest.all_other);
    }

-- what a put makes of a map with a first pair, by where its key stands
pub put_past : (p : ℕ × ℕ) (m : Pairs) (k v : ℕ) → p.0 < k → after_put (p ∷ m) k v ≡ p ∷ after_put m k v
put_past p m k v less = grind (arith, nat_tests)

pub put_here : (p : ℕ × ℕ) (m : Pairs) (k v : ℕ) → Above p.0 m → p.0 ≡ k → after_put (p ∷ m) k v ≡ (k, v) ∷ m
put_here p m k v above same =
    let rest : IsAllAbove k m = all_above_tells k m (Above-lower k p.0 m (omega arith) above) in
    grind (arith, nat_tests, rest.none_below, rest.all_behind)

pub put_before : (m : Pairs) (k v : ℕ) → Above k m → after_put m k v ≡ (k, v) ∷ m
put_before m k v above =
    let rest : IsAllAbove k m = all_above_tells k m above in
    grind (arith, nat_tests, rest.none_below, rest.all_behind)

-- a sorted map stays sorted
pub sorted_after_remove : (m : Pairs) (k : ℕ) → IsSortedMap m → IsSortedMap (after_remove m k)
sorted_after_remove m k sorted = AllPairs-filter (λ p q. p.0 < q.0) (λ p. not (p.0 == k)) m sorted

above_put : (j : ℕ) (m : Pairs) (k v : ℕ) → j < k → IsSortedMap m → Above j m → Above j (after_put m k v)
above_put j [] k v less sorted above = (less, tt)
above_put j (p ∷ m) k v less sorted above = elim (cases_lt p.0 k) [
  | inl past ↦ rw (put_past p m k v past) (above.0, above_put j m k v less (sorted_rest p m sorted) above.1)
  | inr not_past ↦ elim (cases_lt k p.0) [
    | inl before ↦ rw (put_before (p ∷ m) k v (before, Above-lower k p.0 m (omega arith) (above_first p m sorted))) (less, above)
    | inr here ↦ rw (put_here p m k v (above_first p m sorted) (omega arith)) (less, above.1)
  ]
]

pub sorted_after_put : (m : Pairs) (k v : ℕ) → IsSortedMap m → IsSortedMap (after_put m k v)
sorted_after_put [] k v sorted = sorted_cons (k, v) [] tt sorted
sorted_after_put (p ∷ m) k v sorted = elim (cases_lt p.0 k) [
  | inl past ↦ rw (put_past p m k v past) (sorted_cons p (after_put m k v) (above_put p.0 m k v past (sorted_rest p m sorted) (above_first p m sorted)) (sorted_after_put m k v (sorted_rest p m sorted)))
  | inr not_past ↦ elim (cases_lt k p.0) [
    | inl before ↦ let above : Above k (p ∷ m) = (before, Above-lower k p.0 m (omega arith) (above_first p m sorted)) in
        rw (put_before (p ∷ m) k v above) (sorted_cons (k, v) (p ∷ m) above sorted)
    | inr here ↦ rw (put_here p m k v (above_first p m sorted) (omega arith)) (sorted_cons (k, v) m (Above-lower k p.0 m (omega arith) (above_first p m sorted)) (sorted_rest p m sorted))
  ]
]
