-- Sums over lists that change at one place.
use Rattle.std.proofs.Common.{◌≡◌, ℕ, ◌+◌, List, [], ◌∷◌, ◌++◌, arith, zero, suc, set, sym, ap, ◌≤◌, ◌≢◌, refl, cond, eq-eqb, ne_eqb, Bool, true, false, eqb, ◌<◌, length}
use Rattle.std.proofs.lemmas.Bool.Decides.{nat_tests}
use lib.ListN.{get_elem?}
use mathlib.Core.Option.{some, some-injective, some-ne-none}
use Rattle.snap_steps.specs.Counting.{total, times, one_if, removed}

module _ {A : Type 0} (g : A → ℕ) where
  pub total-append : (l m : List A) → total g (l ++ m) ≡ total g l + total g m
  total-append [] m = omega arith
  total-append (x ∷ xs) m = omega (arith, total-append xs m)

  pub total-set : (l : List A) (j : ℕ) (v w : A) → get_elem? l j ≡ some v → total g (set l j w) + g v ≡ total g l + g w
  total-set [] j v w e = absurd (some-ne-none v (sym e))
  total-set (x ∷ xs) zero v w e = omega (arith, ap g (some-injective x v e))
  total-set (x ∷ xs) (suc j) v w e = omega (arith, total-set xs j v w e)

  pub term_le : (l : List A) (j : ℕ) (v : A) → get_elem? l j ≡ some v → g v ≤ total g l
  term_le [] j v e = absurd (some-ne-none v (sym e))
  term_le (x ∷ xs) zero v e = omega (arith, ap g (some-injective x v e))
  term_le (x ∷ xs) (suc j) v e = omega (arith, term_le xs j v e)

  pub terms_le : (l : List A) (j k : ℕ) (v u : A) → k ≢ j → get_elem? l j ≡ some v → get_elem? l k ≡ some u → g v + g u ≤ total g l
  terms_le [] j k v u n e d = absurd (some-ne-none v (sym e))
  terms_le (x ∷ xs) zero zero v u n e d = absurd (n refl)
  terms_le (x ∷ xs) zero (suc k) v u n e d = omega (arith, ap g (some-injective x v e), term_le xs k u d)
  terms_le (x ∷ xs) (suc j) zero v u n e d = omega (arith, ap g (some-injective x u d), term_le xs j v e)
  terms_le (x ∷ xs) (suc j) (suc k) v u n e d = omega (arith, terms_le xs j k v u (λ h. n (ap suc h)) e d)

pub times-append : (x : ℕ) (l m : List ℕ) → times x (l ++ m) ≡ times x l + times x m
times-append x [] m = omega arith
times-append x (y ∷ ys) m = omega (arith, times-append x ys m)

pub one_same : (x y : ℕ) → x ≡ y → one_if x y ≡ 1
one_same x y e = ap (λ b. cond b 1 0) (eq-eqb x y e)

pub one_other : (x y : ℕ) → x ≢ y → one_if x y ≡ 0
one_other x y n = ap (λ b. cond b 1 0) (ne_eqb x y n)

pub removed_same : (r : ℕ) (l : List ℕ) → times r (removed r l) ≡ 0
removed_same r [] = refl
removed_same r (x ∷ xs) = go (eqb x r) refl (removed_same r xs)
  where
    go : (b : Bool) → eqb x r ≡ b → times r (removed r xs) ≡ 0 → times r (cond b (removed r xs) (x ∷ removed r xs)) ≡ 0
    go true e t = t
    go false e t = let ne : r ≢ x = grind (arith, nat_tests) in omega (arith, one_other r x ne, t)

pub removed_other : (r s : ℕ) (l : List ℕ) → s ≢ r → times s (removed r l) ≡ times s l
removed_other r s [] ne = refl
removed_other r s (x ∷ xs) ne = go (eqb x r) refl (removed_other r s xs ne)
  where
    go : (b : Bool) → eqb x r ≡ b → times s (removed r xs) ≡ times s xs → times s (cond b (removed r xs) (x ∷ removed r xs)) ≡ one_if s x + times s xs
    go true e t = let n : s ≢ x = grind (arith, nat_tests) in omega (arith, one_other s x n, t)
    go false e t = omega (arith, t)

pub at_near : {A : Type 0} (l : List A) (i : ℕ) (a : A) → get_elem? l i ≡ some a → i < length l
at_near [] i a e = absurd (some-ne-none a (sym e))
at_near (x ∷ xs) zero a e = omega arith
at_near (x ∷ xs) (suc i) a e = omega (arith, at_near xs i a e)
