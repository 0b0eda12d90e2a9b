-- Where a search of a sorted map ends.
use Rattle.std.specs.Prelude.{◌≡◌, ◌<◌, ◌≤◌, ℕ, Bool, filter, length, not, take, drop, slice_index_or}
use Rattle.snap_model.specs.SortedMap.{Pairs}

-- the key of the pair at place i
abbrev pub key_at : Pairs → ℕ → ℕ
key_at m i = let pair = slice_index_or m i (0, 0) in pair.0

-- the pair at place i has the key
pub record IsFoundAt (m : Pairs) (k i : ℕ) : Type 0 where
  pub within : i < length m
  pub is : key_at m i ≡ k

-- the key would go to place i: smaller keys before it, greater ones from it on
pub record IsGapAt (m : Pairs) (k i : ℕ) : Type 0 where
  pub within : i ≤ length m
  pub before : (j : ℕ) → j < i → key_at m j < k
  pub behind : (j : ℕ) → i ≤ j → j < length m → k < key_at m j

-- the pairs before place i are those that pass the test
pub record IsCutAt (test : ℕ × ℕ → Bool) (m : Pairs) (i : ℕ) : Type 0 where
  pub within : i ≤ length m
  pub front : take i m ≡ filter test m
  pub back : drop i m ≡ filter (λ p. not (test p)) m
