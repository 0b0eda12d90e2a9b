-- Pairs by rising keys, and those of them that pass a test.
use Rattle.std.proofs.Common.{◌≡◌, ◌≢◌, ℕ, ◌+◌, ◌<◌, ◌≤◌, Bool, true, false, eqb, ltb, eq-eqb, ne_eqb, lt-ltb, le-ltb, inl, inr, [], ◌∷◌, ◌++◌, Option, Some, None, refl, sym, ap, ◌∙◌, arith, ◌&&◌}
use Rattle.snap_prelude.proofs.Common.{cases_order, filter, nat_tests}
use Rattle.snap_prelude.specs.{at, Between, empty, node, Pairs, pairs, Tree}
use Rattle.snap_rule.specs.Tree.{entry}

-- the keys rise from `from` on and stay below `until`
abbrev pub Rise : ℕ → ℕ → Pairs → Type 0
Rise from until [] = Unit {0}
Rise from until (p ∷ m) = (from ≤ p.0) × (p.0 < until) × Rise (p.0 + 1) until m

rise_wider : (a b c d : ℕ) (m : Pairs) → a ≤ b → c ≤ d → Rise b c m → Rise a d m
rise_wider a b c d [] l h r = tt
rise_wider a b c d (p ∷ m) l h r = (omega (arith, r.0), omega (arith, r.1), rise_wider (p.0 + 1) (p.0 + 1) c d m (omega arith) h r.2)

rise_append : (a b c : ℕ) (xs ys : Pairs) → a ≤ b → b ≤ c → Rise a b xs → Rise b c ys → Rise a c (xs ++ ys)
rise_append a b c [] ys l h r s = rise_wider a b c c ys l (omega arith) s
rise_append a b c (p ∷ xs) ys l h r s = (r.0, omega (arith, r.1), rise_append (p.0 + 1) b c xs ys (omega (arith, r.1)) h r.2 s)

rise_entry : (k : ℕ) (o : Option ℕ) → Rise k (k + 1) (entry k o)
rise_entry k None = tt
rise_entry k (Some v) = (omega arith, omega arith, tt)

pub pairs_rise : (low high : ℕ) (t : Tree) → Between low high t → Rise low high (pairs t)
pairs_rise low high empty h = tt
pairs_rise low high (node n a b) h = rise_append low n.key high (pairs a) (entry n.key n.value ++ pairs b) h.0 (omega (arith, h.1)) (pairs_rise low n.key a h.2)
    (rise_append n.key (n.key + 1) high (entry n.key n.value) (pairs b) (omega arith) (omega (arith, h.1)) (rise_entry n.key n.value) (pairs_rise (n.key + 1) high b h.3))

own : (p : ℕ × ℕ) (m : Pairs) → at (p ∷ m) p.0 ≡ Some p.1
own p m = rw (eq-eqb p.0 p.0 refl)

away : (p : ℕ × ℕ) (m : Pairs) (k : ℕ) → p.0 ≢ k → at (p ∷ m) k ≡ at m k
away p m k ne = let g : eqb p.0 k ≡ false = ne_eqb p.0 k ne in rw g

both : (a b : Bool) → (a && b) ≡ true → (a ≡ true) × (b ≡ true)
both true b e = (refl, e)
both false b e = absurd (cc e)

below_only : (a b : ℕ) → ltb a b ≡ true → a < b
below_only a b e = grind (arith, nat_tests)

-- no pair passes where no key that passes has a value, and each where all keys do
pub none_pass : (q : ℕ → Bool) (from until : ℕ) (m : Pairs) → Rise from until m → ((k : ℕ) → k < until → q k ≡ true → at m k ≡ None) → filter (λ p. q p.0) m ≡ []
none_pass q from until [] r f = refl
none_pass q from until (p ∷ m) r f = go (q p.0) refl (λ e. none_pass q (p.0 + 1) until m r.2 (λ k l h. sym (away p m k (λ s. let z : true ≡ false = sym h ∙ ap q (sym s) ∙ e in cc z)) ∙ f k l h))
  where
    go : (b : Bool) → q p.0 ≡ b → (q p.0 ≡ false → filter (λ p. q p.0) m ≡ []) → filter (λ p. q p.0) (p ∷ m) ≡ []
    go true e rest = absurd (let z : Some p.1 ≡ None = sym (own p m) ∙ f p.0 r.1 e in cc z)
    go false e rest = rw e (rest e)

-- nor where no key passes
pub no_key_passes : (q : ℕ → Bool) (m : Pairs) → ((k : ℕ) → q k ≡ false) → filter (λ p. q p.0) m ≡ []
no_key_passes q [] f = refl
no_key_passes q (p ∷ m) f = let e : q p.0 ≡ false = f p.0 in rw e (no_key_passes q m f)

pub all_pass : (q : ℕ → Bool) (from until : ℕ) (m : Pairs) → Rise from until m → ((k : ℕ) → from ≤ k → k < until → q k ≡ true) → filter (λ p. q p.0) m ≡ m
all_pass q from until [] r f = refl
all_pass q from until (p ∷ m) r f = let e : q p.0 ≡ true = f p.0 r.0 r.1 in rw e (ap (λ (l : Pairs). p ∷ l) (all_pass q (p.0 + 1) until m r.2 (λ k l h. f k (omega (arith, r.0)) h)))

-- around a key that passes: the pairs before it, its own, and those behind it
module _ (q : ℕ → Bool) (k : ℕ) (passes : q k ≡ true) (until : ℕ) where
  abbrev pub before : Pairs → Pairs
  before m = filter (λ p. q p.0 && ltb p.0 k) m

  abbrev pub behind : Pairs → Pairs
  behind m = filter (λ p. q p.0 && ltb k p.0) m

  -- all keys are greater
  none_before : (from : ℕ) (m : Pairs) → k < from → Rise from until m → (before m ≡ []) × (at m k ≡ None) × (behind m ≡ filter (λ p. q p.0) m)
  none_before from [] l r = (refl, refl, refl)
  none_before from (p ∷ m) l r =
      let rest = none_before (p.0 + 1) m (omega (arith, r.0)) r.2 in
      let g : ltb p.0 k ≡ false = le-ltb p.0 k (omega (arith, r.0)) in
      let h : ltb k p.0 ≡ true = lt-ltb k p.0 (omega (arith, r.0)) in
      (go (q p.0) refl g rest.0, away p m k (λ e. omega (arith, e, r.0)) ∙ rest.1, went (q p.0) refl h rest.2)
    where
      go : (b : Bool) → q p.0 ≡ b → ltb p.0 k ≡ false → before m ≡ [] → before (p ∷ m) ≡ []
      go true e g z = rw (e, g) z
      go false e g z = rw e z

      went : (b : Bool) → q p.0 ≡ b → ltb k p.0 ≡ true → behind m ≡ filter (λ p. q p.0) m → behind (p ∷ m) ≡ filter (λ p. q p.0) (p ∷ m)
      went true e h z = rw (e, h) (ap (λ (l : Pairs). p ∷ l) z)
      went false e h z = rw e z

  split : (from : ℕ) (m : Pairs) → Rise from until m → filter (λ p. q p.0) m ≡ before m ++ (entry k (at m k) ++ behind m)
  split from [] r = refl
  split from (p ∷ m) r = elim (cases_order p.0 k) [
    | inl e ↦ same e
    | inr (inl l) ↦ less l (split (p.0 + 1) m r.2) (q p.0) refl
    | inr (inr l) ↦ (let none = none_before p.0 (p ∷ m) l (omega arith, r.1, r.2) in sym ((λ i. none.0 i ++ (entry k (none.1 i) ++ none.2 i))))
  ]
    where
      same : p.0 ≡ k → filter (λ p. q p.0) (p ∷ m) ≡ before (p ∷ m) ++ (entry k (at (p ∷ m) k) ++ behind (p ∷ m))
      same e =
          let none = none_before (p.0 + 1) m (omega (arith, e)) r.2 in
          let t : q p.0 ≡ true = ap q e ∙ passes in
          let g : ltb p.0 k ≡ false = le-ltb p.0 k (omega (arith, e)) in
          let h : ltb k p.0 ≡ false = le-ltb k p.0 (omega (arith, e)) in
          let mine : at (p ∷ m) k ≡ Some p.1 = ap (at (p ∷ m)) (sym e) ∙ own p m in
          let key : p ≡ (k, p.1) = (λ i. (e i, p.1)) in
          rw (mine, t, g, h, none.0, none.2) (ap (λ (x : ℕ × ℕ). x ∷ filter (λ p. q p.0) m) key)

      less : p.0 < k → filter (λ p. q p.0) m ≡ before m ++ (entry k (at m k) ++ behind m) → (b : Bool) → q p.0 ≡ b → filter (λ p. q p.0) (p ∷ m) ≡ before (p ∷ m) ++ (entry k (at (p ∷ m) k) ++ behind (p ∷ m))
      less l rest true t =
          let g : ltb p.0 k ≡ true = lt-ltb p.0 k l in let h : ltb k p.0 ≡ false = le-ltb k p.0 (omega arith) in
          rw (away p m k (λ e. omega (arith, e)), t, g, h) (ap (λ (x : Pairs). p ∷ x) rest)
      less l rest false t = rw (away p m k (λ e. omega (arith, e)), t) rest

  -- nothing that passes stands before it, or behind it
  pub first_passes : (from : ℕ) (m : Pairs) → Rise from until m → ((j : ℕ) → q j ≡ true → j < k → at m j ≡ None) → filter (λ p. q p.0) m ≡ entry k (at m k) ++ behind m
  first_passes from m r f = split from m r ∙ ap (λ (l : Pairs). l ++ (entry k (at m k) ++ behind m))
      (none_pass (λ j. q j && ltb j k) from until m r (λ j l e. let h = both (q j) (ltb j k) e in f j h.0 (below_only j k h.1)))

  pub last_passes : (from : ℕ) (m : Pairs) → Rise from until m → ((j : ℕ) → q j ≡ true → k < j → at m j ≡ None) → filter (λ p. q p.0) m ≡ before m ++ entry k (at m k)
  last_passes from m r f = split from m r ∙ ap (λ (l : Pairs). before m ++ l) (ap (λ (l : Pairs). entry k (at m k) ++ l)
      (none_pass (λ j. q j && ltb k j) from until m r (λ j l e. let h = both (q j) (ltb k j) e in f j h.0 (below_only k j h.1))) ∙ ended (at m k))
    where
      ended : (o : Option ℕ) → entry k o ++ [] ≡ entry k o
      ended None = refl
      ended (Some v) = refl
