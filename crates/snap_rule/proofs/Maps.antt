-- What a map has after one more call.
use Rattle.std.proofs.Common.{◌≡◌, ◌≢◌, ℕ, eqb, ltb, Bool, true, false, cond, eq-eqb, ne_eqb, lt-ltb, le-ltb, List, [], ◌∷◌, ◌++◌, Option, Some, None, refl, ap, sym, ◌∙◌, arith}
use Rattle.std.specs.Prelude.{not}
use native.Mathlib.Decide.{ℕ_discrete, dec_lt}
use mathlib.Core.Logic.{dite}
use Rattle.std.specs.List.{filter}
use Rattle.snap_model.specs.SortedMap.{Pairs, at}
use Rattle.snap_model.specs.History.{after_call, after_from, call_key, call_value, told}
use Rattle.snap_model.specs.declared.call.Call.{Call}
use Rattle.snap_model.specs.declared.call.Entry.{Entry}
use Rattle.snap_model.specs.declared.call.Call.TheVariants.{Put, Remove}

-- the pairs whose keys pass a test
filtered_out : (f : ℕ → Bool) (m : Pairs) (k : ℕ) → f k ≡ false → at (filter (λ p. f p.0) m) k ≡ None
filtered_out f [] k h = refl
filtered_out f (p ∷ m) k h = let i = filtered_out f m k h in dite (ℕ_discrete p.0 k) (λ e. let t : f p.0 ≡ false = ap f e ∙ h in rw t i) (λ n. either (f p.0) (ne_eqb p.0 k n) i)
  where
    either : (b : Bool) → eqb p.0 k ≡ false → at (filter (λ p. f p.0) m) k ≡ None
        → at (cond b (p ∷ filter (λ p. f p.0) m) (filter (λ p. f p.0) m)) k ≡ None
    either true q i = rw q i
    either false q i = i

filtered_in : (f : ℕ → Bool) (m : Pairs) (k : ℕ) → f k ≡ true → at (filter (λ p. f p.0) m) k ≡ at m k
filtered_in f [] k h = refl
filtered_in f (p ∷ m) k h = let i = filtered_in f m k h in dite (ℕ_discrete p.0 k) (λ e. let t : f p.0 ≡ true = ap f e ∙ h in rw t (ap (cond (eqb p.0 k) (Some p.1)) i)) (λ n. either (f p.0) (ne_eqb p.0 k n) i)
  where
    either : (b : Bool) → eqb p.0 k ≡ false → at (filter (λ p. f p.0) m) k ≡ at m k
        → at (cond b (p ∷ filter (λ p. f p.0) m) (filter (λ p. f p.0) m)) k ≡ cond (eqb p.0 k) (Some p.1) (at m k)
    either true q i = rw q i
    either false q i = rw q i

abbrev pub or_else : Option ℕ → Option ℕ → Option ℕ
or_else None o = o
or_else (Some v) o = Some v

pub or_none : (o : Option ℕ) → or_else o None ≡ o
or_none None = refl
or_none (Some v) = refl

pub at_append : (l r : Pairs) (k : ℕ) → at (l ++ r) k ≡ or_else (at l k) (at r k)
at_append [] r k = refl
at_append (p ∷ l) r k = either (eqb p.0 k) (at_append l r k)
  where
    either : (b : Bool) → at (l ++ r) k ≡ or_else (at l k) (at r k)
        → cond b (Some p.1) (at (l ++ r) k) ≡ or_else (cond b (Some p.1) (at l k)) (at r k)
    either true i = refl
    either false i = i

call_same : (m : Pairs) (c : Call) → at (after_call m c) (call_key c) ≡ call_value c
call_same m (Put k v) = at_append (filter (λ p. ltb p.0 k) m) ((k, v) ∷ filter (λ p. ltb k p.0) m) k
    ∙ ap (λ (o : Option ℕ). or_else o (at ((k, v) ∷ filter (λ p. ltb k p.0) m) k)) (filtered_out (λ x. ltb x k) m k (le-ltb k k (omega arith)))
    ∙ rw (eq-eqb k k refl)
call_same m (Remove k) = filtered_out (λ x. not (eqb x k)) m k (rw (eq-eqb k k refl))

put_other : (m : Pairs) (k v j : ℕ) → j ≢ k → at (after_call m (Put k v)) j ≡ at m j
put_other m k v j n = at_append (filter (λ p. ltb p.0 k) m) ((k, v) ∷ filter (λ p. ltb k p.0) m) j
    ∙ ap (or_else (at (filter (λ p. ltb p.0 k) m) j)) skip
    ∙ dite (dec_lt j k)
    (λ l. ap (or_else (at (filter (λ p. ltb p.0 k) m) j)) (filtered_out (λ x. ltb k x) m j (le-ltb k j (omega arith))) ∙ or_none (at (filter (λ p. ltb p.0 k) m) j) ∙ filtered_in (λ x. ltb x k) m j (lt-ltb j k l))
    (λ g. ap (λ (o : Option ℕ). or_else o (at (filter (λ p. ltb k p.0) m) j)) (filtered_out (λ x. ltb x k) m j (le-ltb j k (omega arith))) ∙ filtered_in (λ x. ltb k x) m j (lt-ltb k j (omega arith)))
  where
    skip : at ((k, v) ∷ filter (λ p. ltb k p.0) m) j ≡ at (filter (λ p. ltb k p.0) m) j
    skip = let q : eqb k j ≡ false = ne_eqb k j (λ e. n (sym e)) in rw q

call_other : (m : Pairs) (c : Call) (j : ℕ) → j ≢ call_key c → at (after_call m c) j ≡ at m j
call_other m (Put k v) j n = put_other m k v j n
call_other m (Remove k) j n = filtered_in (λ x. not (eqb x k)) m j (rw (ne_eqb j k n))

after_more : (m : Pairs) (h : List Entry) (e : Entry) → after_from m (h ++ e ∷ []) ≡ after_call (after_from m h) e.call
after_more m [] e = refl
after_more m (x ∷ h) e = after_more (after_call m x.call) h e

-- a history with one more entry tells the entry's value at its key, and at other keys what it told before
pub told_same : (h : List Entry) (e : Entry) → told (h ++ e ∷ []) (call_key e.call) ≡ call_value e.call
unfolding told
told_same h e = ap (λ (m : Pairs). at m (call_key e.call)) (after_more [] h e) ∙ call_same (after_from [] h) e.call

pub told_other : (h : List Entry) (e : Entry) (k : ℕ) → k ≢ call_key e.call → told (h ++ e ∷ []) k ≡ told h k
unfolding told
told_other h e k n = ap (λ (m : Pairs). at m k) (after_more [] h e) ∙ call_other (after_from [] h) e.call k n
