-- Work under the lock of a row.
use Rattle.std.proofs.Common.{◌≡◌, inl, inr, ℕ, ◌+◌, ◌<◌, cond, Bool, true, false, eq-eqb, nat_lt, lt-ltb, List, [], ◌∷◌, refl, sym, ap, ◌∙◌, subst, arith}
use Rattle.snap_prelude.specs.{Becomes, Fact, fact, Field, IsKnown, Known, read, removed, times}

-- a row that is held alone
pub held_once : (holds : List ℕ) (r : ℕ) → holds ≡ r ∷ [] → 0 < times r holds
held_once holds r e = let one : times r (r ∷ []) ≡ 1 = ap (λ (b : Bool). cond b 1 0 + 0) (eq-eqb r r refl) in omega (arith, one, ap (times r) e)

pub removed_alone : (r : ℕ) → removed r (r ∷ []) ≡ []
removed_alone r = ap (λ (b : Bool). let l : List ℕ = cond b [] (r ∷ []) in l) (eq-eqb r r refl)

-- a load under the lock
pub knows_read : (old new : Known) (r : ℕ) (f : Field) (x : ℕ) → 0 < times r old.view.holds → Becomes old new (read old.view r f x) → IsKnown new.view.words.knows r f x
knows_read old new r f x held e =
    let yes : nat_lt 0 (times r old.view.holds) ≡ true = lt-ltb 0 (times r old.view.holds) held in
    let is : new.view.words.knows ≡ fact r f x ∷ old.view.words.knows = ap (λ (k : Known). k.view.words.knows) e ∙ ap (λ (b : Bool). cond b (fact r f x ∷ old.view.words.knows) old.view.words.knows) yes in
    subst (λ (l : List Fact). IsKnown l r f x) (sym is) (inl (refl, refl, refl))

pub known_still : (old new : Known) (r : ℕ) (f : Field) (x q : ℕ) (g : Field) (y : ℕ) → Becomes old new (read old.view r f x) → IsKnown old.view.words.knows q g y → IsKnown new.view.words.knows q g y
known_still old new r f x q g y e h = subst (λ (k : Known). IsKnown k.view.words.knows q g y) (sym e) (go (nat_lt 0 (times r old.view.holds)))
  where
    go : (b : Bool) → IsKnown (cond b (fact r f x ∷ old.view.words.knows) old.view.words.knows) q g y
    go true = inr h
    go false = h
