-- What a sorted map has at a key that a search found, or found absent, and what an edit there makes of it.
use Rattle.std.proofs.Common.{◌≡◌, ℕ, zero, suc, ◌<◌, ◌≤◌, [], ◌∷◌, length, get_or, set, Some, None, Result, Ok, Err, IfOk, IfErr, sym, ◌∙◌, ap, arith}
use Rattle.std.specs.List.{insert, remove}
use Rattle.std.specs.List.Sorted.{IsSearchInRange, IsBinarySearchResult, IsNonDecreasingBy}
use Rattle.std.specs.Ordering.{nat_cmp, ordering_index}
use Rattle.std.proofs.lemmas.Cmp.{ranked}
use Rattle.std.proofs.lemmas.List.Sorted.{IsNonDecreasingBy-from_default}
use Rattle.std.proofs.lemmas.Bool.Decides.{nat_tests}
use Rattle.snap_model.specs.SortedMap.{Pairs, IsSortedMap, at, after_put, after_remove}
use Rattle.snap_model.specs.Places.{key_at, IsFoundAt, IsGapAt}
use Rattle.snap_model.proofs.Rising.{Above, Above-lower, above_first, sorted_rest, IsAllAbove, all_above_tells, put_past, put_here, put_before}

-- the key is there: its value, and the map after a write of its pair or its removal
pub record IsFound (m : Pairs) (k i : ℕ) : Type 0 where
  pub value : at m k ≡ Some (get_or m i (0, 0)).1
  pub put : (v : ℕ) → set m i (k, v) ≡ after_put m k v
  pub removed : remove m i ≡ after_remove m k

-- the key is absent, and a new pair at this place puts it
pub record IsGap (m : Pairs) (k i : ℕ) : Type 0 where
  pub absent : at m k ≡ None
  pub put : (v : ℕ) → insert m i (k, v) ≡ after_put m k v
  pub removed : m ≡ after_remove m k

pub found_tells : (m : Pairs) → IsSortedMap m → (k i : ℕ) → IsFoundAt m k i → IsFound m k i
found_tells [] sorted k i found = absurd (omega (arith, found.within))
found_tells (p ∷ m) sorted k zero found =
    let above : Above p.0 m = above_first p m sorted in
    let rest : IsAllAbove k m = all_above_tells k m (Above-lower k p.0 m (omega (arith, found.is)) above) in
    record {
      value = grind (arith, nat_tests, found.is);
      put = λ v. sym (put_here p m k v above found.is);
      removed = grind (arith, nat_tests, found.is, rest.all_other);
    }
found_tells (p ∷ m) sorted k (suc i) found =
    let past : p.0 < k = omega (arith, found.is, sorted 0 (suc i) (0, 0) (omega arith) found.within) in
    let rest : IsFound m k i = found_tells m (sorted_rest p m sorted) k i (record { within = omega (arith, found.within); is = found.is }) in
    record {
      value = grind (arith, nat_tests, rest.value);
      put = λ v. ap (λ (l : Pairs). p ∷ l) (rest.put v) ∙ sym (put_past p m k v past);
      removed = grind (arith, nat_tests, rest.removed);
    }

gap_above : (m : Pairs) (k : ℕ) → IsGapAt m k 0 → Above k m
gap_above [] k gap = tt
gap_above (p ∷ m) k gap = (gap.behind 0 (omega arith) (omega arith), gap_above m k (record { within = omega arith; before = λ j less. absurd (omega arith); behind = λ j le below. gap.behind (suc j) (omega arith) (omega arith) }))

pub gap_tells : (m : Pairs) → IsSortedMap m → (k i : ℕ) → IsGapAt m k i → IsGap m k i
gap_tells m sorted k zero gap =
    let above : Above k m = gap_above m k gap in
    let all : IsAllAbove k m = all_above_tells k m above in
    record { absent = all.absent; put = λ v. sym (put_before m k v above); removed = sym all.all_other }
gap_tells [] sorted k (suc i) gap = absurd (omega (arith, gap.within))
gap_tells (p ∷ m) sorted k (suc i) gap =
    let past : p.0 < k = gap.before 0 (omega arith) in
    let rest : IsGap m k i = gap_tells m (sorted_rest p m sorted) k i (record {
      within = omega (arith, gap.within);
      before = λ j less. gap.before (suc j) (omega arith);
      behind = λ j le below. gap.behind (suc j) (omega arith) (omega arith);
    }) in
    record {
      absent = grind (arith, nat_tests, rest.absent);
      put = λ v. ap (λ (l : Pairs). p ∷ l) (rest.put v) ∙ sym (put_past p m k v past);
      removed = grind (arith, nat_tests, rest.removed);
    }

module _ (m : Pairs) (sorted : IsSortedMap m) (k : ℕ) where
  -- the comparisons with k rise along the map, as a binary search asks
  comparisons_rise : IsNonDecreasingBy (λ pair. ordering_index (nat_cmp pair.0 k)) m
  comparisons_rise = IsNonDecreasingBy-from_default (λ pair. ordering_index (nat_cmp pair.0 k)) m (0, 0) (λ i j le within.
      let keys_rise : key_at m i ≤ key_at m j = grind (arith, sorted i j (0, 0), λ (same : i ≡ j). ap (key_at m) same) in
      grind (arith, nat_tests))

  -- a binary search by key ends at the key, or at the gap for it
  pub searched : (r : Result ℕ ℕ) → IsSearchInRange r (length m) → IsBinarySearchResult (λ pair. nat_cmp pair.0 k) m r → record { found : IfOk r (IsFoundAt m k); absent : IfErr r (IsGapAt m k) }
  searched (Ok i) within equal = record { found = record { within = within; is = ranked _ k _ (sym (equal (0, 0))) }; absent = tt }
  searched (Err i) within parted = record {
    found = tt;
    absent = record {
      within = within;
      before = λ j less. ranked _ k _ (sym ((parted comparisons_rise).0 j (0, 0) (omega arith) less));
      behind = λ j le less. ranked _ k _ (sym ((parted comparisons_rise).1 j (0, 0) le less));
    };
  }
