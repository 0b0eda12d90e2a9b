-- What a pass keeps of its debt tells of the debt after each step.
use Rattle.std.proofs.Common.{◌≡◌, ◌≢◌, ◌⊎◌, ⊎_elim, inl, inr, ℕ, zero, suc, List, [], ◌∷◌, Option, None, Some, refl, ap, sym, ◌∙◌, subst, arith}
use native.Mathlib.Decide.{ℕ_discrete}
use mathlib.Core.Logic.{dite}
use Rattle.snap_rule.proofs.Debts.{taken_back}
use Rattle.snap_rule.specs.Debt.{mark, no_debt}
use Rattle.snap_rule.specs.Debt.Lists.{or_else, taken}
use Rattle.snap_rule.specs.declared.debt.Debt.{Debt}
use Rattle.snap_rule.specs.declared.debt.Mark.{Mark}
use Rattle.snap_stamp.specs.declared.layout.Field.TheVariants.{Stamp}
use Rattle.snap_steps.specs.Facts.{word_in}
use Rattle.snap_steps.specs.Owed.{NamesEach, IsWith, IsWithout, ListsOnly, Names, TellsDebt, after_value, nothing_owed, owed_at, owed_one}
use Rattle.snap_steps.specs.Steps.Debts.{aimed_at, listing}
use Rattle.snap_steps.specs.Steps.Writes.{leaf_debt_in, value_debt}
use Rattle.snap_steps.specs.declared.owed.Listed.{Listed}
use Rattle.snap_steps.specs.declared.owed.Listed.TheVariants.{Empty, One, Two, Three, Many}
use Rattle.snap_steps.specs.declared.owed.Tally.{Tally}
use Rattle.snap_steps.specs.declared.view.View.{View}

-- a row is named, or it isn't
names_or : (o : Listed) (n : ℕ) → Names o n ⊎ (Names o n → ⊥)
names_or Empty n = inr (λ h. h)
names_or (One a) n = dite (ℕ_discrete n a) (λ e. inl e) (λ e. inr e)
names_or (Two a b) n = dite (ℕ_discrete n a) (λ e. inl (inl e)) (λ e. dite (ℕ_discrete n b) (λ f. inl (inr f)) (λ f. inr (λ h. ⊎_elim e f h)))
names_or (Three a b c) n = dite (ℕ_discrete n a) (λ e. inl (inl e)) (λ e. dite (ℕ_discrete n b) (λ f. inl (inr (inl f))) (λ f. dite (ℕ_discrete n c) (λ g. inl (inr (inr g))) (λ g. inr (λ h. ⊎_elim e (λ y. ⊎_elim f g y) h))))
names_or Many n = inl tt

with_names : (o o' : Listed) (r : ℕ) → IsWith o r o' → r ≢ 0 → Names o' r
with_names o o' r is z = ⊎_elim (λ h. subst (λ w. Names w r) (sym (is.had (inr h))) h) (λ h. ((is.more z h).names r).1 (inr (inl refl))) (names_or o r)

with_keeps : (o o' : Listed) (r n : ℕ) → IsWith o r o' → Names o n → Names o' n
with_keeps o o' r n is h = dite (ℕ_discrete r 0)
    (λ z. subst (λ w. Names w n) (sym (is.had (inl z))) h)
    (λ z. ⊎_elim (λ a. subst (λ w. Names w n) (sym (is.had (inr a))) h) (λ a. ((is.more z a).names n).1 (inl h)) (names_or o r))

-- a row is listed too
pub with_covers : (o o' : Listed) (r x : ℕ) (l : List Mark) → IsWith o r o' → NamesEach o l → NamesEach o' (listing r x l)
with_covers o o' zero x l is all = λ n y h. with_keeps o o' zero n is (all n y h)
with_covers o o' (suc r) x l is all = λ n y h. ⊎_elim
    (λ q. let e : n ≡ suc r = ap (λ (m : Mark). m.row) q in subst (λ z. Names o' z) (sym e) (with_names o o' (suc r) is (λ z. omega (arith, z))))
    (λ q. with_keeps o o' (suc r) n is (all n y q)) h

-- a row is listed no more
pub without_covers : (o o' : Listed) (r : ℕ) (l : List Mark) → IsWithout o r o' → NamesEach o l → NamesEach o' (taken r l)
without_covers o o' r l is all = λ n y h. let b = taken_back r l n y h in (is.names n).1 (inl (all n y b.1, b.0))

-- nothing is owed
pub tells_none : TellsDebt nothing_owed no_debt
tells_none = record { to_do_is = refl; keyless = λ e. refl; rows = λ n x h. absurd h }

-- there is a to-do key
pub tells_key : (t : Tally) (u : Debt) (key : ℕ) → t.to_do ≡ Some key → u.to_do ≡ Some key → NamesEach t.listed u.list → TellsDebt t u
tells_key t u key a b all = record { to_do_is = a ∙ sym b; keyless = λ none. let q : Some key ≡ None = sym a ∙ none in absurd (cc); rows = all }

-- one row is owed
one_owed : (key row x : ℕ) → TellsDebt (owed_one key row) (record { to_do = Some key; list = listing row x []; turning = None })
one_owed key zero x = tells_key (owed_one key zero) (record { to_do = Some key; list = []; turning = None }) key refl refl (λ n y h. absurd h)
one_owed key (suc r) x = tells_key (owed_one key (suc r)) (record { to_do = Some key; list = mark (suc r) x ∷ []; turning = None }) key refl refl
    (λ n y h. ⊎_elim (λ q. ap (λ (m : Mark). m.row) q) (λ q. absurd q) h)

pub tells_leaf : (v : View) (t : Tally) (a key row below : ℕ) → a ≡ key → row ≡ below → t ≡ owed_one a row → TellsDebt t (leaf_debt_in v key below)
tells_leaf v t a key row below same rows is = subst (λ w. TellsDebt w (leaf_debt_in v key below)) (sym (is ∙ (λ i. owed_one (same i) (rows i)))) (one_owed key below (word_in v.words.knows below Stamp))

-- a value word was stored
pub tells_value : (v : View) (o t : Tally) (a key row n : ℕ) → a ≡ key → t ≡ after_value o a row n → TellsDebt o v.debt → TellsDebt t (value_debt v key row n)
tells_value v o t a key row zero same is old = tells_leaf v t a key row row same refl is
tells_value v o t a key row (suc n) same is old = subst (λ w. TellsDebt w v.debt) (sym is) old

-- the to-do key has come to be that of a row
pub tells_aimed : (t : Tally) (n m key key' : ℕ) (o : Listed) (l : List Mark) → n ≡ m → key ≡ key' → t ≡ owed_at n key o → NamesEach o l → TellsDebt t (aimed_at m key' l)
tells_aimed t n m key key' o l rows same is all = subst (λ w. TellsDebt w (aimed_at m key' l)) (sym (is ∙ (λ i. owed_at (rows i) (same i) o))) (at m)
  where
    at : (m : ℕ) → TellsDebt (owed_at m key' o) (aimed_at m key' l)
    at zero = tells_none
    at (suc m) = tells_key (owed_at (suc m) key' o) (aimed_at (suc m) key' l) key' refl refl all

-- a height was stored: then there is a to-do key
some_or : (o : Option ℕ) (k : ℕ) → or_else o k ≡ None → ⊥
some_or None k = λ e. cc
some_or (Some x) k = λ e. cc

pub tells_height : (o : Tally) (u : Debt) (to_do : Option ℕ) (o' : Listed) (a key row parent x : ℕ) → a ≡ key → row ≡ parent → to_do ≡ or_else o.to_do a → IsWith o.listed row o' → TellsDebt o u
    → TellsDebt (record { to_do = to_do; listed = o' }) (record { to_do = or_else u.to_do key; list = listing parent x u.list; turning = u.turning })
tells_height o u to_do o' a key row parent x same rows is lists old = record {
  to_do_is = is ∙ (λ i. or_else (old.to_do_is i) (same i));
  keyless = λ none. absurd (some_or o.to_do a (sym is ∙ none));
  rows = with_covers o.listed o' parent x u.list (subst (λ z. IsWith o.listed z o') rows lists) old.rows;
}

-- a row is listed too, and the to-do key stays
pub tells_stay : (o : Tally) (u : Debt) (o' : Listed) (row x : ℕ) → u.turning ≡ Some row → IsWith o.listed row o' → TellsDebt o u
    → TellsDebt (record { to_do = o.to_do; listed = o' }) (record { to_do = u.to_do; list = listing row x u.list; turning = None })
tells_stay o u o' row x turning lists old = record {
  to_do_is = old.to_do_is;
  keyless = λ none. let q : Some row ≡ None = sym turning ∙ ap (λ (w : Debt). w.turning) (old.keyless none) in absurd (cc);
  rows = with_covers o.listed o' row x u.list lists old.rows;
}

-- who names one row at most lists no other
pub lists_only : (o : Listed) (r : ℕ) (l : List Mark) → (o ≡ Empty) ⊎ (o ≡ One r) → NamesEach o l → ListsOnly r l
lists_only o r l (inl e) all = λ n x h. absurd (subst (λ w. Names w n) e (all n x h))
lists_only o r l (inr e) all = λ n x h. subst (λ w. Names w n) e (all n x h)
