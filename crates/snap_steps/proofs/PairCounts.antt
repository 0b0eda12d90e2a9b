-- A map has as many pairs as its history has added, less those that it has taken.
use Rattle.std.proofs.Common.{◌≡◌, ◌≢◌, ℕ, ◌+◌, ◌<◌, ◌≤◌, eqb, nat_lt, Bool, true, false, cond, not, List, [], ◌∷◌, length, length-append, Option, Some, None, refl, sym, ap, arith, eqb-true}
use Rattle.std.proofs.lemmas.Bool.Decides.{nat_tests}
use Rattle.std.specs.List.{filter}
use mathlib.Core.Logic.{dite}
use native.Mathlib.Decide.{ℕ_discrete}
use Rattle.snap_model.specs.History.{call_key, after_call, after_from, after, IsLegalFrom, IsLegal}
use Rattle.snap_model.specs.SortedMap.{Pairs, at, after_put, after_remove}
use Rattle.snap_model.specs.declared.call.Call.{Call}
use Rattle.snap_model.specs.declared.call.Call.TheVariants.{Put, Remove}
use Rattle.snap_model.specs.declared.call.Entry.{Entry}
use Rattle.snap_steps.specs.Counting.{total, one_if}
use Rattle.snap_steps.specs.Pairs.{added_by, taken_by, adds, takes}
use Rattle.snap_steps.proofs.Totals.{total-append, one_same, one_other}

-- how many pairs have this key
abbrev has_key : ℕ → Pairs → ℕ
has_key k m = total (λ (p : ℕ × ℕ). one_if p.0 k) m

-- no key stands twice
abbrev Once : Pairs → Type 0
Once m = (k : ℕ) → has_key k m ≤ 1

length_parts : (k : ℕ) (m : Pairs) → length (filter (λ p. nat_lt p.0 k) m) + length (filter (λ p. nat_lt k p.0) m) + has_key k m ≡ length m
length_parts k [] = refl
length_parts k (p ∷ m) = go (nat_lt p.0 k) refl (nat_lt k p.0) refl (length_parts k m)
  where
    go : (a : Bool) → nat_lt p.0 k ≡ a → (b : Bool) → nat_lt k p.0 ≡ b → length (filter (λ q. nat_lt q.0 k) m) + length (filter (λ q. nat_lt k q.0) m) + has_key k m ≡ length m
        → length (cond a (p ∷ filter (λ q. nat_lt q.0 k) m) (filter (λ q. nat_lt q.0 k) m)) + length (cond b (p ∷ filter (λ q. nat_lt k q.0) m) (filter (λ q. nat_lt k q.0) m)) + has_key k (p ∷ m) ≡ length (p ∷ m)
    go true ea true eb h = absurd (let l : p.0 < k = grind (arith, nat_tests) in let g : k < p.0 = grind (arith, nat_tests) in omega arith)
    go true ea false eb h = let ne : p.0 ≢ k = grind (arith, nat_tests) in omega (arith, h, one_other p.0 k ne)
    go false ea true eb h = let ne : p.0 ≢ k = grind (arith, nat_tests) in omega (arith, h, one_other p.0 k ne)
    go false ea false eb h = let same : p.0 ≡ k = grind (arith, nat_tests) in omega (arith, h, one_same p.0 k same)

keys_parts : (k j : ℕ) (m : Pairs) → has_key j (filter (λ p. nat_lt p.0 k) m) + has_key j (filter (λ p. nat_lt k p.0) m) ≤ has_key j m
keys_parts k j [] = omega arith
keys_parts k j (p ∷ m) = go (nat_lt p.0 k) refl (nat_lt k p.0) refl (keys_parts k j m)
  where
    go : (a : Bool) → nat_lt p.0 k ≡ a → (b : Bool) → nat_lt k p.0 ≡ b → has_key j (filter (λ q. nat_lt q.0 k) m) + has_key j (filter (λ q. nat_lt k q.0) m) ≤ has_key j m
        → has_key j (cond a (p ∷ filter (λ q. nat_lt q.0 k) m) (filter (λ q. nat_lt q.0 k) m)) + has_key j (cond b (p ∷ filter (λ q. nat_lt k q.0) m) (filter (λ q. nat_lt k q.0) m)) ≤ has_key j (p ∷ m)
    go true ea true eb h = absurd (let l : p.0 < k = grind (arith, nat_tests) in let g : k < p.0 = grind (arith, nat_tests) in omega arith)
    go true ea false eb h = omega (arith, h)
    go false ea true eb h = omega (arith, h)
    go false ea false eb h = omega (arith, h)

no_key_parts : (k : ℕ) (m : Pairs) → has_key k (filter (λ p. nat_lt p.0 k) m) + has_key k (filter (λ p. nat_lt k p.0) m) ≡ 0
no_key_parts k [] = refl
no_key_parts k (p ∷ m) = go (nat_lt p.0 k) refl (nat_lt k p.0) refl (no_key_parts k m)
  where
    go : (a : Bool) → nat_lt p.0 k ≡ a → (b : Bool) → nat_lt k p.0 ≡ b → has_key k (filter (λ q. nat_lt q.0 k) m) + has_key k (filter (λ q. nat_lt k q.0) m) ≡ 0
        → has_key k (cond a (p ∷ filter (λ q. nat_lt q.0 k) m) (filter (λ q. nat_lt q.0 k) m)) + has_key k (cond b (p ∷ filter (λ q. nat_lt k q.0) m) (filter (λ q. nat_lt k q.0) m)) ≡ 0
    go true ea true eb h = absurd (let l : p.0 < k = grind (arith, nat_tests) in let g : k < p.0 = grind (arith, nat_tests) in omega arith)
    go true ea false eb h = let ne : p.0 ≢ k = grind (arith, nat_tests) in omega (arith, h, one_other p.0 k ne)
    go false ea true eb h = let ne : p.0 ≢ k = grind (arith, nat_tests) in omega (arith, h, one_other p.0 k ne)
    go false ea false eb h = omega (arith, h)

length_without : (k : ℕ) (m : Pairs) → length (after_remove m k) + has_key k m ≡ length m
length_without k [] = refl
length_without k (p ∷ m) = go (eqb p.0 k) refl (length_without k m)
  where
    go : (a : Bool) → eqb p.0 k ≡ a → length (after_remove m k) + has_key k m ≡ length m → length (cond (not a) (p ∷ after_remove m k) (after_remove m k)) + has_key k (p ∷ m) ≡ length (p ∷ m)
    go true e h = omega (arith, h, one_same p.0 k (eqb-true p.0 k e))
    go false e h = let ne : p.0 ≢ k = grind (arith, nat_tests) in omega (arith, h, one_other p.0 k ne)

keys_without : (k j : ℕ) (m : Pairs) → has_key j (after_remove m k) ≤ has_key j m
keys_without k j [] = omega arith
keys_without k j (p ∷ m) = go (eqb p.0 k) (keys_without k j m)
  where
    go : (a : Bool) → has_key j (after_remove m k) ≤ has_key j m → has_key j (cond (not a) (p ∷ after_remove m k) (after_remove m k)) ≤ has_key j (p ∷ m)
    go true h = omega (arith, h)
    go false h = omega (arith, h)

-- what the map has at a key, and whether it has a pair there
absent_key : (k : ℕ) (m : Pairs) → at m k ≡ None → has_key k m ≡ 0
absent_key k [] h = refl
absent_key k (p ∷ m) h = go (eqb p.0 k) refl (absent_key k m) h
  where
    go : (b : Bool) → eqb p.0 k ≡ b → (at m k ≡ None → has_key k m ≡ 0) → cond b (Some p.1) (at m k) ≡ None → has_key k (p ∷ m) ≡ 0
    go true e less q = cc
    go false e less q = let ne : p.0 ≢ k = grind (arith, nat_tests) in omega (arith, less q, one_other p.0 k ne)

present_key : (k v : ℕ) (m : Pairs) → at m k ≡ Some v → 0 < has_key k m
present_key k v [] h = cc
present_key k v (p ∷ m) h = go (eqb p.0 k) refl (present_key k v m) h
  where
    go : (b : Bool) → eqb p.0 k ≡ b → (at m k ≡ Some v → 0 < has_key k m) → cond b (Some p.1) (at m k) ≡ Some v → 0 < has_key k (p ∷ m)
    go true e less q = omega (arith, one_same p.0 k (eqb-true p.0 k e))
    go false e less q = omega (arith, less q)

length_put : (m : Pairs) (k v : ℕ) → length (after_put m k v) + has_key k m ≡ length m + 1
length_put m k v = omega (arith, length_parts k m, length-append (filter (λ p. nat_lt p.0 k) m) ((k, v) ∷ filter (λ p. nat_lt k p.0) m))

once_put : (m : Pairs) (k v : ℕ) → Once m → Once (after_put m k v)
once_put m k v h j = dite (ℕ_discrete k j)
    (λ e. omega (arith, ap (λ (i : ℕ). has_key i (filter (λ p. nat_lt p.0 k) m) + has_key i (filter (λ p. nat_lt k p.0) m)) e, no_key_parts k m, one_same k j e, total-append (λ (p : ℕ × ℕ). one_if p.0 j) (filter (λ p. nat_lt p.0 k) m) ((k, v) ∷ filter (λ p. nat_lt k p.0) m)))
    (λ ne. omega (arith, keys_parts k j m, h j, one_other k j ne, total-append (λ (p : ℕ × ℕ). one_if p.0 j) (filter (λ p. nat_lt p.0 k) m) ((k, v) ∷ filter (λ p. nat_lt k p.0) m)))

one_call : (m : Pairs) (c : Call) (reply : Option ℕ) → Once m → reply ≡ at m (call_key c) → (length (after_call m c) + taken_by c reply ≡ length m + added_by c reply) × Once (after_call m c)
one_call m (Put k v) None h e = (omega (arith, length_put m k v, absent_key k m (sym e)), once_put m k v h)
one_call m (Put k v) (Some w) h e = (omega (arith, length_put m k v, present_key k w m (sym e), h k), once_put m k v h)
one_call m (Remove k) None h e = (omega (arith, length_without k m, absent_key k m (sym e)), λ j. omega (arith, keys_without k j m, h j))
one_call m (Remove k) (Some w) h e = (omega (arith, length_without k m, present_key k w m (sym e), h k), λ j. omega (arith, keys_without k j m, h j))

counts_from : (m : Pairs) (l : List Entry) → Once m → IsLegalFrom m l → length (after_from m l) + total takes l ≡ length m + total adds l
counts_from m [] h legal = omega arith
counts_from m (e ∷ es) h legal = let one = one_call m e.call e.reply h legal.0 in omega (arith, one.0, counts_from (after_call m e.call) es one.1 legal.1)

pub pair_counts : (l : List Entry) → IsLegal l → length (after l) + total takes l ≡ total adds l
pair_counts l legal = omega (arith, counts_from [] l (λ k. omega arith) legal)

adds_le : (c : Call) (reply : Option ℕ) → added_by c reply ≤ 1
adds_le (Put k v) None = omega arith
adds_le (Put k v) (Some w) = omega arith
adds_le (Remove k) None = omega arith
adds_le (Remove k) (Some w) = omega arith

pub adds_few : (l : List Entry) → total adds l ≤ length l
adds_few [] = omega arith
adds_few (e ∷ es) = omega (arith, adds_few es, adds_le e.call e.reply)
