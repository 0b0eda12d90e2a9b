-- What the pair that is nearest to a key on one side tells of the map.
use Rattle.std.proofs.Common.{◌≡◌, ℕ, ◌+◌, ◌<◌, ◌≤◌, ◌^◌, true, ltb, leb, [], ◌∷◌, ◌++◌, Option, Some, None, refl, sym, ap, ◌∙◌, subst, arith, ◌&&◌, reverse}
use Rattle.snap_prelude.proofs.Common.{filter, filter_same, le-leb, nat_tests}
use Rattle.std.proofs.lemmas.List.{reverse-append}
use Rattle.snap_prelude.specs.{after, at, Cloned, first_pair, higher, image, IsCloneOf}
use Rattle.snap_prelude.specs.{last_pair, Left, lower, Pairs, range, Right, Side}
use Rattle.snap_rule.specs.Tree.{entry}
use Rattle.snap_view.specs.Nearest.{Reaches, reaches, IsNearestPair, IsBehind, on}
use Rattle.snap_view.proofs.Ranges.{Rise, pairs_rise, none_pass, no_key_passes, all_pass, first_passes, last_passes}

-- the pairs with low ≤ key < until
abbrev pub range_below : Pairs → ℕ → ℕ → Pairs
range_below m low until = filter (λ p. leb low p.0 && ltb p.0 until) m

-- the pairs of a clone rise
pub clone_rises : (c : Cloned) → IsCloneOf c.base (image c) → Rise 0 (2 ^ 64) (after c.base)
clone_rises c h = subst (Rise 0 (2 ^ 64)) h.tells (pairs_rise 0 (2 ^ 64) (image c) h.ordered)

-- the tests as facts
reached : (side : Side) (from key : ℕ) → reaches side from key ≡ true → Reaches side from key
reached Left from key e = grind (arith, nat_tests)
reached Right from key e = grind (arith, nat_tests)

reaching : (side : Side) (from key : ℕ) → Reaches side from key → reaches side from key ≡ true
reaching Left from key l = le-leb key from l
reaching Right from key l = le-leb from key l

within_bounds : (low high k : ℕ) → (leb low k && leb k high) ≡ true → (low ≤ k) × (k ≤ high)
within_bounds low high k e = grind (arith, nat_tests)

passing : (low high k : ℕ) → low ≤ k → k ≤ high → (leb low k && leb k high) ≡ true
passing low high k l h = grind (arith, nat_tests)

pub empty_below : (m : Pairs) (low until : ℕ) → until ≤ low → range_below m low until ≡ []
empty_below m low until l = no_key_passes (λ k. leb low k && ltb k until) m (λ k. grind (arith, nat_tests))

pub below_is : (m : Pairs) (low high until : ℕ) → until ≡ high + 1 → range m low high ≡ range_below m low until
below_is m low high until e = filter_same (λ p. leb low p.0 && leb p.0 high) (λ p. leb low p.0 && ltb p.0 until) (λ p. grind (arith, nat_tests)) m

pub none_lower : (m : Pairs) (key : ℕ) → key ≡ 0 → None ≡ lower m key
none_lower m key z = sym (ap last_pair (no_key_passes (λ k. ltb k key) m (λ k. grind (arith, nat_tests))))

last_of : (xs : Pairs) (p : ℕ × ℕ) → last_pair (xs ++ (p ∷ [])) ≡ Some p
last_of [] p = refl
last_of (x ∷ []) p = refl
last_of (x ∷ y ∷ xs) p = last_of (y ∷ xs) p

module _ (m : Pairs) (rise : Rise 0 (2 ^ 64) m) where
  -- the answer on that side: the last pair up to the key, or the first from it on
  abbrev pub answer : Side → ℕ → Option (ℕ × ℕ)
  answer side from = on side (last_pair (filter (λ p. reaches side from p.0) m)) (first_pair (filter (λ p. reaches side from p.0) m))

  pub nearest_answer : (side : Side) (from : ℕ) (found : Option (ℕ × ℕ)) → IsNearestPair (at m) side from found → found ≡ answer side from
  nearest_answer Left from None near = sym (ap last_pair (none_pass (reaches Left from) 0 (2 ^ 64) m rise (λ k l e. near k l (reached Left from k e))))
  nearest_answer Right from None near = sym (ap first_pair (none_pass (reaches Right from) 0 (2 ^ 64) m rise (λ k l e. near k l (reached Right from k e))))
  nearest_answer Left from (Some p) near = sym (ap last_pair
      (last_passes (reaches Left from) p.0 (reaching Left from p.0 near.lies) (2 ^ 64) 0 m rise (λ j e l. near.nearer j (reached Left from j e) l) ∙ ap (λ (o : Option ℕ). filter (λ x. reaches Left from x.0 && ltb x.0 p.0) m ++ entry p.0 o) near.is)
      ∙ last_of (filter (λ x. reaches Left from x.0 && ltb x.0 p.0) m) (p.0, p.1))
  nearest_answer Right from (Some p) near = sym (ap first_pair
      (first_passes (reaches Right from) p.0 (reaching Right from p.0 near.lies) (2 ^ 64) 0 m rise (λ j e l. near.nearer j (reached Right from j e) l) ∙ ap (λ (o : Option ℕ). entry p.0 o ++ filter (λ x. reaches Right from x.0 && ltb p.0 x.0) m) near.is))

  -- past a key
  pub lower_answer : (key : ℕ) (before : ℕ) → IsBehind Left key (Some before) → answer Left before ≡ lower m key
  lower_answer key before b = ap last_pair (filter_same (λ p. leb p.0 before) (λ p. ltb p.0 key) (λ p. grind (arith, nat_tests)) m)

  pub higher_answer : (key : ℕ) (next : ℕ) → IsBehind Right key (Some next) → answer Right next ≡ higher m key
  higher_answer key next b = ap first_pair (filter_same (λ p. leb next p.0) (λ p. ltb key p.0) (λ p. grind (arith, nat_tests)) m)

  pub none_higher : (key : ℕ) → key + 1 ≡ 2 ^ 64 → None ≡ higher m key
  none_higher key z = sym (ap first_pair (none_pass (λ k. ltb key k) 0 (2 ^ 64) m rise (λ k l e. absurd (let h : key < k = grind (arith, nat_tests) in omega arith))))

  -- all pairs
  pub first_answer : answer Right 0 ≡ first_pair m
  first_answer = ap first_pair (all_pass (λ k. leb 0 k) 0 (2 ^ 64) m rise (λ k l h. le-leb 0 k l))

  pub last_answer : answer Left 18446744073709551615 ≡ last_pair m
  last_answer = ap last_pair (all_pass (λ k. leb k 18446744073709551615) 0 (2 ^ 64) m rise (λ k l h. le-leb k 18446744073709551615 (omega arith)))

  pub whole_range : range m 0 18446744073709551615 ≡ m
  whole_range = all_pass (λ k. leb 0 k && leb k 18446744073709551615) 0 (2 ^ 64) m rise (λ k l h. passing 0 18446744073709551615 k l (omega arith))

  -- ranges
  pub none_rising : (low high : ℕ) → IsNearestPair (at m) Right low None → range m low high ≡ []
  none_rising low high near = none_pass (λ k. leb low k && leb k high) 0 (2 ^ 64) m rise (λ k b e. near k b (within_bounds low high k e).0)

  pub none_falling : (low high : ℕ) → IsNearestPair (at m) Left high None → range m low high ≡ []
  none_falling low high near = none_pass (λ k. leb low k && leb k high) 0 (2 ^ 64) m rise (λ k b e. near k b (within_bounds low high k e).1)

  pub range_rises : (low high : ℕ) (p : ℕ × ℕ) → IsNearestPair (at m) Right low (Some p) → p.0 ≤ high → range m low high ≡ p ∷ range m (p.0 + 1) high
  range_rises low high p near l = first_passes (λ k. leb low k && leb k high) p.0 (passing low high p.0 near.lies l) (2 ^ 64) 0 m rise (λ j e b. let h = within_bounds low high j e in near.nearer j h.0 b)
      ∙ ap (λ (o : Option ℕ). entry p.0 o ++ filter (λ x. (leb low x.0 && leb x.0 high) && ltb p.0 x.0) m) near.is
      ∙ ap (λ (x : Pairs). p ∷ x) (filter_same (λ x. (leb low x.0 && leb x.0 high) && ltb p.0 x.0) (λ x. leb (p.0 + 1) x.0 && leb x.0 high) (λ x. let from = near.lies in grind (arith, nat_tests)) m)

  pub range_falls : (low high : ℕ) (p : ℕ × ℕ) → IsNearestPair (at m) Left high (Some p) → low ≤ p.0 → reverse (range m low high) ≡ p ∷ reverse (range_below m low p.0)
  range_falls low high p near l = ap reverse (last_passes (λ k. leb low k && leb k high) p.0 (passing low high p.0 l near.lies) (2 ^ 64) 0 m rise (λ j e b. let h = within_bounds low high j e in near.nearer j h.1 b)
      ∙ ap (λ (o : Option ℕ). filter (λ x. (leb low x.0 && leb x.0 high) && ltb x.0 p.0) m ++ entry p.0 o) near.is
      ∙ ap (λ (x : Pairs). x ++ (p ∷ [])) (filter_same (λ x. (leb low x.0 && leb x.0 high) && ltb x.0 p.0) (λ x. leb low x.0 && ltb x.0 p.0) (λ x. let from = near.lies in grind (arith, nat_tests)) m))
      ∙ reverse-append (range_below m low p.0) (p ∷ [])

  -- from past all keys
  pub empty_above : (low high : ℕ) → low ≡ 2 ^ 64 → range m low high ≡ []
  empty_above low high e = none_pass (λ k. leb low k && leb k high) 0 (2 ^ 64) m rise (λ k b h. absurd (omega (arith, e, (within_bounds low high k h).0)))

  -- the nearest pair lies past the range
  pub past_range : (low high : ℕ) (p : ℕ × ℕ) → IsNearestPair (at m) Right low (Some p) → high < p.0 → range m low high ≡ []
  past_range low high p near l = none_pass (λ k. leb low k && leb k high) 0 (2 ^ 64) m rise (λ k b e. let h = within_bounds low high k e in near.nearer k h.0 (omega arith))

  pub before_range : (low high : ℕ) (p : ℕ × ℕ) → IsNearestPair (at m) Left high (Some p) → p.0 < low → range m low high ≡ []
  before_range low high p near l = none_pass (λ k. leb low k && leb k high) 0 (2 ^ 64) m rise (λ k b e. let h = within_bounds low high k e in near.nearer k h.1 (omega arith))
