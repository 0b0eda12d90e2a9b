-- Sorted maps cut at a key, as the answers about neighbours and ranges need it.
use Rattle.std.proofs.Common.{◌≡◌, ℕ, zero, suc, ◌-◌, ◌<◌, ◌≤◌, Bool, true, false, cond, [], ◌∷◌, length, get_or, refl, sym, ap, arith}
use Rattle.std.specs.Prelude.{◌&&◌, not, nat_lt, nat_le, slice_get}
use Rattle.std.specs.List.{filter}
use Rattle.std.specs.List.Sorted.{IsPartitionPoint, IsNonDecreasingBy}
use Rattle.std.proofs.lemmas.Bool.Decides.{nat_tests}
use Rattle.snap_model.specs.SortedMap.{Pairs, IsSortedMap, first_pair, last_pair}
use Rattle.snap_model.specs.Places.{IsCutAt}

-- the first and the last pair, by place
pub first_is : (m : Pairs) → slice_get m 0 ≡ first_pair m
first_is [] = refl
first_is (p ∷ m) = refl

last_at : (m : Pairs) (i : ℕ) → suc i ≡ length m → slice_get m i ≡ last_pair m
last_at [] i is = absurd (omega arith)
last_at (p ∷ []) zero is = refl
last_at (p ∷ []) (suc i) is = absurd (omega arith)
last_at (p ∷ q ∷ m) zero is = absurd (omega arith)
last_at (p ∷ q ∷ m) (suc i) is = last_at (q ∷ m) i (omega arith)

pub last_is : (m : Pairs) → slice_get m (length m - 1) ≡ last_pair m
last_is [] = refl
last_is (p ∷ m) = last_at (p ∷ m) _ (omega arith)

-- all pairs fail a test
none_pass : (test : ℕ × ℕ → Bool) (m : Pairs) → ((k : ℕ) (d : ℕ × ℕ) → k < length m → test (get_or m k d) ≡ false) → record { none : filter test m ≡ []; all : filter (λ p. not (test p)) m ≡ m }
none_pass test [] fails = record { none = refl; all = refl }
none_pass test (p ∷ m) fails =
    let first : test p ≡ false = fails 0 p (omega arith) in
    let rest = none_pass test m (λ k d below. fails (suc k) d (omega arith)) in
    record { none = rw first rest.none; all = rw first (ap (λ (l : Pairs). p ∷ l) rest.all) }

-- a test that only smaller pairs pass: the pairs before its partition point pass it, the others fail it
pub cut : (test : ℕ × ℕ → Bool) (m : Pairs) (i : ℕ) → i ≤ length m → IsPartitionPoint (λ p. test p ≡ true) (λ p. test p ≡ false) m i → IsCutAt test m i
cut test m zero within parted =
    let fails = none_pass test m (λ k d below. parted.1 k d (omega arith) below) in
    record { within = within; front = sym fails.none; back = sym fails.all }
cut test [] (suc i) within parted = absurd (omega arith)
cut test (p ∷ m) (suc i) within parted =
    let first : test p ≡ true = parted.0 0 p (omega arith) (omega arith) in
    let rest : IsCutAt test m i = cut test m i (omega arith) (λ k d le below. parted.0 (suc k) d (omega arith) (omega arith), λ k d le below. parted.1 (suc k) d (omega arith) (omega arith)) in
    record { within = within; front = rw first (ap (λ (l : Pairs). p ∷ l) rest.front); back = rw first rest.back }

-- the keys do not fall, as a search by a test asks
pub keys_rise : (m : Pairs) → IsSortedMap m → IsNonDecreasingBy (λ p. p.0) m
keys_rise m sorted i j d le below = grind (arith, sorted i j d, λ (same : i ≡ j). ap (λ x. (get_or m x d).0) same)

-- two tests that tell the same filter the same
pub filter_same : (f g : ℕ × ℕ → Bool) → ((p : ℕ × ℕ) → f p ≡ g p) → (m : Pairs) → filter f m ≡ filter g m
filter_same f g same [] = refl
filter_same f g same (p ∷ m) = rw (same p, filter_same f g same m) refl

-- a filter after a filter
pub filter_both : (f g : ℕ × ℕ → Bool) (m : Pairs) → filter g (filter f m) ≡ filter (λ p. f p && g p) m
filter_both f g [] = refl
filter_both f g (p ∷ m) = either (f p) refl (filter_both f g m)
  where
    either : (b : Bool) → f p ≡ b → filter g (filter f m) ≡ filter (λ q. f q && g q) m → filter g (filter f (p ∷ m)) ≡ filter (λ q. f q && g q) (p ∷ m)
    either true is rest = rw is (ap (λ (l : Pairs). cond (g p) (p ∷ l) l) rest)
    either false is rest = rw is rest

pub not_below : (k : ℕ) (m : Pairs) → filter (λ p. not (nat_lt p.0 k)) m ≡ filter (λ p. nat_le k p.0) m
not_below k m = filter_same (λ p. not (nat_lt p.0 k)) (λ p. nat_le k p.0) (λ p. grind (arith, nat_tests)) m

pub not_up_to : (k : ℕ) (m : Pairs) → filter (λ p. not (nat_le p.0 k)) m ≡ filter (λ p. nat_lt k p.0) m
not_up_to k m = filter_same (λ p. not (nat_le p.0 k)) (λ p. nat_lt k p.0) (λ p. grind (arith, nat_tests)) m
