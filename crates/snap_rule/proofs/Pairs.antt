-- The pairs of a tree are the map after the history.
use Rattle.std.proofs.Common.{◌≡◌, ℕ, ◌+◌, ◌<◌, ◌≤◌, ◌^◌, inl, inr, eqb, ltb, Bool, true, false, cond, eq-eqb, ne_eqb, lt-ltb, le-ltb, List, [], ◌∷◌, ◌++◌, Option, Some, None, refl, ap, ap₂, sym, ◌∙◌, arith}
use Rattle.std.proofs.lemmas.Bool.{cases_order}
use native.Mathlib.Decide.{ℕ_discrete, dec_lt}
use mathlib.Core.Logic.{dite}
use Rattle.std.specs.List.{filter}
use Rattle.snap_model.specs.SortedMap.{Pairs, at}
use Rattle.snap_model.specs.History.{after_call, after_from, after, told}
use Rattle.snap_model.specs.declared.call.Call.{Call}
use Rattle.snap_model.specs.declared.call.Call.TheVariants.{Put, Remove}
use Rattle.snap_model.specs.declared.call.Entry.{Entry}
use Rattle.snap_rule.specs.Tree.{Tree, find, Between, entry, pairs}
use Rattle.snap_rule.specs.Tree.Tree.{empty, node}
use Rattle.snap_rule.specs.State.{State}
use Rattle.snap_rule.specs.Rule.{TreeOk}
use Rattle.snap_rule.proofs.Maps.{or_else, or_none, at_append}
use Rattle.snap_rule.proofs.Trees.{find_here, find_left, find_right}

-- the keys rise, from low on
abbrev Rises : ℕ → Pairs → Type 0
Rises low [] = Unit {0}
Rises low (p ∷ m) = (low ≤ p.0) × Rises (p.0 + 1) m

-- the keys are below high
abbrev Below : ℕ → Pairs → Type 0
Below high [] = Unit {0}
Below high (p ∷ m) = (p.0 < high) × Below high m

rises_weaker : (low low' : ℕ) (m : Pairs) → low' ≤ low → Rises low m → Rises low' m
rises_weaker low low' [] l h = tt
rises_weaker low low' (p ∷ m) l h = (omega (arith, h.0), h.1)

below_weaker : (high high' : ℕ) (m : Pairs) → high ≤ high' → Below high m → Below high' m
below_weaker high high' [] l h = tt
below_weaker high high' (p ∷ m) l h = (omega (arith, h.0), below_weaker high high' m l h.1)

rises_append : (low mid : ℕ) (xs ys : Pairs) → Rises low xs → Below mid xs → low ≤ mid → Rises mid ys → Rises low (xs ++ ys)
rises_append low mid [] ys h b l r = rises_weaker mid low ys l r
rises_append low mid (p ∷ xs) ys h b l r = (h.0, rises_append (p.0 + 1) mid xs ys h.1 b.1 (omega (arith, b.0)) r)

below_append : (high : ℕ) (xs ys : Pairs) → Below high xs → Below high ys → Below high (xs ++ ys)
below_append high [] ys h r = r
below_append high (p ∷ xs) ys h r = (h.0, below_append high xs ys h.1 r)

-- a key before the first, and one behind the last
at_before : (low : ℕ) (m : Pairs) (k : ℕ) → Rises low m → k < low → at m k ≡ None
at_before low [] k h l = refl
at_before low (p ∷ m) k h l = let q : eqb p.0 k ≡ false = ne_eqb p.0 k (λ e. omega (arith, e, h.0, l)) in rw q (at_before (p.0 + 1) m k h.1 (omega (arith, h.0)))

at_behind : (high : ℕ) (m : Pairs) (k : ℕ) → Below high m → high ≤ k → at m k ≡ None
at_behind high [] k h l = refl
at_behind high (p ∷ m) k h l = let q : eqb p.0 k ≡ false = ne_eqb p.0 k (λ e. omega (arith, e, h.0, l)) in rw q (at_behind high m k h.1 l)

-- maps that have the same at each key are the same
same_map : (low : ℕ) (m m' : Pairs) → Rises low m → Rises low m' → ((k : ℕ) → at m k ≡ at m' k) → m ≡ m'
same_map low [] [] h h' f = refl
same_map low [] (q ∷ m') h h' f = absurd (let z : None ≡ Some q.1 = f q.0 ∙ rw (eq-eqb q.0 q.0 refl) in cc z)
same_map low (p ∷ m) [] h h' f = absurd (let z : None ≡ Some p.1 = sym (f p.0) ∙ rw (eq-eqb p.0 p.0 refl) in cc z)
same_map low (p ∷ m) (q ∷ m') h h' f = elim (cases_order p.0 q.0) [
  | inl e ↦ (let x : p ≡ q = ap₂ (λ (a b : ℕ). (a, b)) e (same_value e) in ap₂ (λ (y : ℕ × ℕ) (ys : Pairs). y ∷ ys) x (same_map (p.0 + 1) m m' h.1 (rises_weaker (q.0 + 1) (p.0 + 1) m' (omega arith) h'.1) (rest e)))
  | inr (inl l) ↦ absurd (let z : Some p.1 ≡ None = sym (own p m) ∙ f p.0 ∙ at_before q.0 (q ∷ m') p.0 (omega arith, h'.1) l in cc z)
  | inr (inr l) ↦ absurd (let z : Some q.1 ≡ None = sym (own q m') ∙ sym (f q.0) ∙ at_before p.0 (p ∷ m) q.0 (omega arith, h.1) l in cc z)
]
  where
    own : (r : ℕ × ℕ) (l : Pairs) → at (r ∷ l) r.0 ≡ Some r.1
    own r l = rw (eq-eqb r.0 r.0 refl)

    same_value : p.0 ≡ q.0 → p.1 ≡ q.1
    same_value e = let z : Some p.1 ≡ Some q.1 = sym (own p m) ∙ f p.0 ∙ ap (at (q ∷ m')) e ∙ own q m' in cc z

    rest : p.0 ≡ q.0 → (k : ℕ) → at m k ≡ at m' k
    rest e k = dite (ℕ_discrete p.0 k)
        (λ y. at_before (p.0 + 1) m k h.1 (omega arith) ∙ sym (at_before (q.0 + 1) m' k h'.1 (omega arith)))
        (λ y. sym (away p m k y) ∙ f k ∙ away q m' k (λ z. y (e ∙ z)))
      where
        away : (r : ℕ × ℕ) (l : Pairs) (k : ℕ) → (r.0 ≡ k → ⊥) → at (r ∷ l) k ≡ at l k
        away r l k z = let g : eqb r.0 k ≡ false = ne_eqb r.0 k z in rw g

-- the pairs of a tree, in its order
entry_rises : (k : ℕ) (o : Option ℕ) (m : Pairs) → Rises (k + 1) m → Rises k (entry k o ++ m)
entry_rises k None m h = rises_weaker (k + 1) k m (omega arith) h
entry_rises k (Some v) m h = (omega arith, h)

entry_below : (high k : ℕ) (o : Option ℕ) (m : Pairs) → k < high → Below high m → Below high (entry k o ++ m)
entry_below high k None m l h = h
entry_below high k (Some v) m l h = (l, h)

pairs_below : (low high : ℕ) (t : Tree) → Between low high t → Below high (pairs t)
pairs_below low high empty h = tt
pairs_below low high (node n a b) h =
    below_append high (pairs a) (entry n.key n.value ++ pairs b) (below_weaker n.key high (pairs a) (omega (arith, h.1)) (pairs_below low n.key a h.2)) (entry_below high n.key n.value (pairs b) h.1 (pairs_below (n.key + 1) high b h.3))

pairs_rise : (low high : ℕ) (t : Tree) → Between low high t → Rises low (pairs t)
pairs_rise low high empty h = tt
pairs_rise low high (node n a b) h =
    rises_append low n.key (pairs a) (entry n.key n.value ++ pairs b) (pairs_rise low n.key a h.2) (pairs_below low n.key a h.2) h.0 (entry_rises n.key n.value (pairs b) (pairs_rise (n.key + 1) high b h.3))

-- a search through an ordered tree finds what its pairs have
pub find_at : (low high k : ℕ) (t : Tree) → Between low high t → find t k ≡ at (pairs t) k
find_at low high k empty h = refl
find_at low high k (node n a b) h =
    let split = at_append (pairs a) (entry n.key n.value ++ pairs b) k in
    let right = pairs_rise (n.key + 1) high b h.3 in
    let none : n.key ≤ k → at (pairs a) k ≡ None = λ l. at_behind n.key (pairs a) k (pairs_below low n.key a h.2) l in
    elim (cases_order k n.key) [
      | inl e ↦ find_here n a b k (sym e) ∙ sym (split ∙ ap (λ (o : Option ℕ). or_else o (at (entry n.key n.value ++ pairs b) k)) (none (omega arith)) ∙ ap (at (entry n.key n.value ++ pairs b)) e ∙ here n.key n.value (pairs b) right)
      | inr (inl l) ↦ find_left n a b k l ∙ find_at low n.key k a h.2 ∙ sym (split ∙ ap (or_else (at (pairs a) k)) (at_before n.key (entry n.key n.value ++ pairs b) k (entry_rises n.key n.value (pairs b) right) l) ∙ or_none (at (pairs a) k))
      | inr (inr l) ↦ find_right n a b k l ∙ find_at (n.key + 1) high k b h.3 ∙ sym (split ∙ ap (λ (o : Option ℕ). or_else o (at (entry n.key n.value ++ pairs b) k)) (none (omega arith)) ∙ behind n.key n.value (pairs b) k l)
    ]
  where
    here : (j : ℕ) (o : Option ℕ) (m : Pairs) → Rises (j + 1) m → at (entry j o ++ m) j ≡ o
    here j None m r = at_before (j + 1) m j r (omega arith)
    here j (Some v) m r = rw (eq-eqb j j refl)

    behind : (j : ℕ) (o : Option ℕ) (m : Pairs) (k : ℕ) → j < k → at (entry j o ++ m) k ≡ at m k
    behind j None m k l = refl
    behind j (Some v) m k l = let g : eqb j k ≡ false = ne_eqb j k (λ e. omega arith) in rw g

-- the map after a history, in its order
rises_filter : (f : ℕ → Bool) (low : ℕ) (m : Pairs) → Rises low m → Rises low (filter (λ p. f p.0) m)
rises_filter f low [] h = tt
rises_filter f low (p ∷ m) h = either (f p.0) (rises_filter f (p.0 + 1) m h.1)
  where
    either : (b : Bool) → Rises (p.0 + 1) (filter (λ q. f q.0) m) → Rises low (cond b (p ∷ filter (λ q. f q.0) m) (filter (λ q. f q.0) m))
    either true i = (h.0, i)
    either false i = rises_weaker (p.0 + 1) low (filter (λ q. f q.0) m) (omega (arith, h.0)) i

rises_above : (k low : ℕ) (m : Pairs) → Rises low m → Rises (k + 1) (filter (λ p. ltb k p.0) m)
rises_above k low [] h = tt
rises_above k low (p ∷ m) h = dite (dec_lt k p.0)
    (λ l. let g : ltb k p.0 ≡ true = lt-ltb k p.0 l in rw g (omega arith, rises_filter (ltb k) (p.0 + 1) m h.1))
    (λ l. let g : ltb k p.0 ≡ false = le-ltb k p.0 (omega arith) in rw g (rises_above k (p.0 + 1) m h.1))

below_filter : (k : ℕ) (m : Pairs) → Below k (filter (λ p. ltb p.0 k) m)
below_filter k [] = tt
below_filter k (p ∷ m) = dite (dec_lt p.0 k)
    (λ l. let g : ltb p.0 k ≡ true = lt-ltb p.0 k l in rw g (l, below_filter k m))
    (λ l. let g : ltb p.0 k ≡ false = le-ltb p.0 k (omega arith) in rw g (below_filter k m))

call_rises : (m : Pairs) (c : Call) → Rises 0 m → Rises 0 (after_call m c)
call_rises m (Put k v) h = rises_append 0 k (filter (λ p. ltb p.0 k) m) ((k, v) ∷ filter (λ p. ltb k p.0) m) (rises_filter (λ x. ltb x k) 0 m h) (below_filter k m) (omega arith) (omega arith, rises_above k 0 m h)
call_rises m (Remove k) h = rises_filter (λ x. Rattle.std.specs.Prelude.not (eqb x k)) 0 m h

after_rises : (m : Pairs) (h : List Entry) → Rises 0 m → Rises 0 (after_from m h)
after_rises m [] r = r
after_rises m (e ∷ h) r = after_rises (after_call m e.call) h (call_rises m e.call r)

pub tree_pairs : (s : State) → TreeOk s → pairs s.tree ≡ after s.history
unfolding told
tree_pairs s ok = same_map 0 (pairs s.tree) (after_from [] s.history) (pairs_rise 0 (2 ^ 64) s.tree ok.ordered) (after_rises [] s.history tt) (λ k. sym (find_at 0 (2 ^ 64) k s.tree ok.ordered) ∙ ok.tells k)
