-- How often a name is among the names of files.
use Rattle.std.proofs.Common.{◌≡◌, ◌≢◌, ◌⊎◌, ◌<◌, ◌≤◌, ◌+◌, suc, zero, ℕ, Bool, true, false, cond, List, [], ◌∷◌, ◌++◌, length, get_or, Option, Some, None, refl, sym, ◌∙◌, ap, inl, inr, arith}
use Rattle.std.specs.Prelude.{All, AllPairs, bytes_eq, flat_map}
use Rattle.std.specs.Option.{option_or}
use Rattle.std.proofs.lemmas.Slice.Eq.{bytes_eq-Decides}
use Rattle.snap_write.specs.Outputs.{Outputs, names_of, text_for}
use Rattle.snap_write.specs.Pieces.{files_put}
use Rattle.snap_write.proofs.Written.{text_for-append}

abbrev pub count : List ℕ → List (List ℕ) → ℕ
count name [] = 0
count name (n ∷ names) = cond (bytes_eq n name) (suc (count name names)) (count name names)

absent : (name : List ℕ) (names : List (List ℕ)) → All (λ n. n ≢ name) names → count name names ≡ 0
absent name [] all = refl
absent name (n ∷ names) all = either (bytes_eq n name) refl (absent name names (λ k d l. all (suc k) d (omega (arith, l))))
  where
    either : (b : Bool) → bytes_eq n name ≡ b → count name names ≡ 0 → cond b (suc (count name names)) (count name names) ≡ 0
    either true is rest = absurd (all 0 name (omega arith) ((bytes_eq-Decides n name).0 is))
    either false is rest = rest

-- where all names differ, none is there twice
pub once : (name : List ℕ) (names : List (List ℕ)) → AllPairs (λ a b. a ≢ b) names → count name names ≤ 1
once name [] all = omega arith
once name (n ∷ names) all = either (bytes_eq n name) refl (once name names (λ i j d l m. all (suc i) (suc j) d (omega (arith, l)) (omega (arith, m))))
  where
    either : (b : Bool) → bytes_eq n name ≡ b → count name names ≤ 1 → cond b (suc (count name names)) (count name names) ≤ 1
    either true is rest =
        omega (arith, absent name names (λ k d l same. all 0 (suc k) d (omega arith) (omega (arith, l)) ((bytes_eq-Decides n name).0 is ∙ sym same)))
    either false is rest = rest

-- how many of these files have the name
abbrev pub held : List ℕ → Outputs → ℕ
held name outputs = count name (names_of outputs)

pub held-append : (name : List ℕ) (xs ys : Outputs) → held name (xs ++ ys) ≡ held name xs + held name ys
held-append name [] ys = omega arith
held-append name (x ∷ xs) ys = either (bytes_eq x.0 name) (held-append name xs ys)
  where
    either : (b : Bool) → held name (xs ++ ys) ≡ held name xs + held name ys → cond b (suc (held name (xs ++ ys))) (held name (xs ++ ys)) ≡ cond b (suc (held name xs)) (held name xs) + held name ys
    either true e = omega (arith, e)
    either false e = e

held-cons : (name : List ℕ) (x : List ℕ × List ℕ) (xs : Outputs) → held name (x ∷ xs) ≡ held name (x ∷ []) + held name xs
held-cons name x xs = held-append name (x ∷ []) xs

pub text_none : (xs : Outputs) (name : List ℕ) → held name xs ≡ 0 → text_for xs name ≡ None
text_none [] name e = refl
text_none (x ∷ xs) name e = either (bytes_eq x.0 name) e (text_none xs name)
  where
    either : (b : Bool) → cond b (suc (held name xs)) (held name xs) ≡ 0 → (held name xs ≡ 0 → text_for xs name ≡ None) → cond b (Some x.1) (text_for xs name) ≡ None
    either true e rest = absurd (omega (arith, e))
    either false e rest = rest e

-- the files of all writers, of which each has its reply file and its exports
abbrev flat : List Outputs → Outputs
flat exports = flat_map (λ files. files) exports

abbrev pub share : List ℕ → Outputs → List Outputs → ℕ → List ℕ × List ℕ → Outputs → ℕ
share name replies exports i d e = held name (get_or replies i d ∷ []) + held name (get_or exports i e)

abbrev pub total : List ℕ → Outputs → List Outputs → ℕ
total name replies exports = held name replies + held name (flat exports)

total-cons : (name : List ℕ) (r : List ℕ × List ℕ) (replies : Outputs) (e : Outputs) (exports : List Outputs) → total name (r ∷ replies) (e ∷ exports) ≡ (held name (r ∷ []) + held name e) + total name replies exports
total-cons name r replies e exports = omega (arith, held-cons name r replies, held-append name e (flat exports))

pub one_share : (name : List ℕ) (replies : Outputs) (exports : List Outputs) (i : ℕ) (d : List ℕ × List ℕ) (e : Outputs) → length exports ≡ length replies → i < length replies → share name replies exports i d e ≤ total name replies exports
one_share name [] exports i d e even l = absurd (omega (arith, l))
one_share name (r ∷ replies) [] i d e even l = absurd (omega (arith, even))
one_share name (r ∷ replies) (x ∷ exports) zero d e even l = omega (arith, total-cons name r replies x exports)
one_share name (r ∷ replies) (x ∷ exports) (suc i) d e even l =
    omega (arith, total-cons name r replies x exports, one_share name replies exports i d e (omega (arith, even)) (omega (arith, l)))

pub two_shares : (name : List ℕ) (replies : Outputs) (exports : List Outputs) (i j : ℕ) (d : List ℕ × List ℕ) (e : Outputs) → length exports ≡ length replies → i < j → j < length replies → share name replies exports i d e + share name replies exports j d e ≤ total name replies exports
two_shares name [] exports i j d e even l m = absurd (omega (arith, m))
two_shares name (r ∷ replies) [] i j d e even l m = absurd (omega (arith, even))
two_shares name (r ∷ replies) (x ∷ exports) i zero d e even l m = absurd (omega (arith, l))
two_shares name (r ∷ replies) (x ∷ exports) zero (suc j) d e even l m =
    omega (arith, total-cons name r replies x exports, one_share name replies exports j d e (omega (arith, even)) (omega (arith, m)))
two_shares name (r ∷ replies) (x ∷ exports) (suc i) (suc j) d e even l m =
    omega (arith, total-cons name r replies x exports, two_shares name replies exports i j d e (omega (arith, even)) (omega (arith, l)) (omega (arith, m)))

-- the writer that has a file of the name, if one has
zero_or : (n : ℕ) → (n ≡ 0) ⊎ (1 ≤ n)
zero_or zero = inl refl
zero_or (suc n) = inr (omega arith)

pub owner : (name : List ℕ) (replies : Outputs) (exports : List Outputs) (d : List ℕ × List ℕ) (e : Outputs) → length exports ≡ length replies → (total name replies exports ≡ 0) ⊎ ((i : ℕ) × (i < length replies) × (1 ≤ share name replies exports i d e))
owner name [] [] d e even = inl refl
owner name [] (x ∷ exports) d e even = absurd (omega (arith, even))
owner name (r ∷ replies) [] d e even = absurd (omega (arith, even))
owner name (r ∷ replies) (x ∷ exports) d e even = either (zero_or (held name (r ∷ []) + held name x)) (owner name replies exports d e (omega (arith, even)))
  where
    either : (held name (r ∷ []) + held name x ≡ 0) ⊎ (1 ≤ held name (r ∷ []) + held name x) → (total name replies exports ≡ 0) ⊎ ((i : ℕ) × (i < length replies) × (1 ≤ share name replies exports i d e))
        → (total name (r ∷ replies) (x ∷ exports) ≡ 0) ⊎ ((i : ℕ) × (i < suc (length replies)) × (1 ≤ share name (r ∷ replies) (x ∷ exports) i d e))
    either (inr own) rest = inr (0, omega arith, own)
    either (inl none) (inl nobody) = inl (omega (arith, total-cons name r replies x exports, none, nobody))
    either (inl none) (inr (i, l, own)) = inr (suc i, omega (arith, l), own)

-- what it has is the text
or_none : (o : Option (List ℕ)) → option_or o None ≡ o
or_none None = refl
or_none (Some x) = refl

text_behind : (name : List ℕ) (x : List ℕ × List ℕ) (xs : Outputs) → held name (x ∷ []) ≡ 0 → text_for (x ∷ xs) name ≡ text_for xs name
text_behind name x xs e = either (bytes_eq x.0 name) e
  where
    either : (b : Bool) → cond b (suc zero) zero ≡ zero → cond b (Some x.1) (text_for xs name) ≡ text_for xs name
    either true e = absurd (omega (arith, e))
    either false e = refl

pub text_at : (name : List ℕ) (replies : Outputs) (exports : List Outputs) (i : ℕ) (d : List ℕ × List ℕ) (e : Outputs) → length exports ≡ length replies → i < length replies → total name replies exports ≤ 1 → 1 ≤ share name replies exports i d e
    → text_for (files_put replies exports) name ≡ text_for (get_or replies i d ∷ get_or exports i e) name
text_at name [] exports i d e even l most own = absurd (omega (arith, l))
text_at name (r ∷ replies) [] i d e even l most own = absurd (omega (arith, even))
text_at name (r ∷ replies) (x ∷ exports) zero d e even l most own = ap (λ o. cond (bytes_eq r.0 name) (Some r.1) o)
    (text_for-append replies (x ++ flat exports) name
    ∙ ap (λ o. option_or o (text_for (x ++ flat exports) name)) (text_none replies name (omega (arith, total-cons name r replies x exports, most, own)))
    ∙ text_for-append x (flat exports) name
    ∙ ap (λ o. option_or (text_for x name) o) (text_none (flat exports) name (omega (arith, total-cons name r replies x exports, most, own)))
    ∙ or_none (text_for x name))
text_at name (r ∷ replies) (x ∷ exports) (suc i) d e even l most own =
    let rest : share name replies exports i d e ≤ total name replies exports = one_share name replies exports i d e (omega (arith, even)) (omega (arith, l)) in
    text_behind name r (replies ++ (x ++ flat exports)) (omega (arith, total-cons name r replies x exports, most, own, rest))
    ∙ text_for-append replies (x ++ flat exports) name
    ∙ ap (λ o. option_or (text_for replies name) o) (text_for-append x (flat exports) name
    ∙ ap (λ o. option_or o (text_for (flat exports) name)) (text_none x name (omega (arith, total-cons name r replies x exports, most, own, rest))))
    ∙ sym (text_for-append replies (flat exports) name)
    ∙ text_at name replies exports i d e (omega (arith, even)) (omega (arith, l)) (omega (arith, total-cons name r replies x exports, most)) own
