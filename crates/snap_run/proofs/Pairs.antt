-- Names that all differ.
use Rattle.std.proofs.Common.{zero, suc, ◌≡◌, ◌≢◌, ◌⊎◌, ◌<◌, ◌+◌, ℕ, Bool, true, false, List, [], ◌∷◌, ◌++◌, Some, None, length, get_or, take, inl, inr, refl, sym, ◌∙◌, ap, append-nil, append_assoc, arith, AllPairs, bytes_eq, cond}
use Rattle.snap_prelude.proofs.Common.{get_or-take, get_or_append_left, length-append, length-take-le}
use Rattle.std.proofs.{lemmas.List.Folds.list_any_at, lemmas.Slice.Eq.bytes_eq-Decides}
use Rattle.snap_plan.specs.Needs.{AllNew, among}
use Rattle.snap_write.specs.Outputs.{Outputs, names_of, text_for}
use Rattle.snap_write.proofs.Written.{Apart, not_among, text_for-unnamed}

get_right : {X : Type 0} (xs ys : List X) (i : ℕ) (d : X) → get_or (xs ++ ys) (length xs + i) d ≡ get_or ys i d
get_right [] ys i d = let e : 0 + i ≡ i = omega arith in ap (λ (n : ℕ). get_or ys n d) e
get_right (x ∷ xs) ys i d = let e : suc (length xs) + i ≡ suc (length xs + i) = omega arith in ap (λ (n : ℕ). get_or (x ∷ (xs ++ ys)) n d) e ∙ get_right xs ys i d

abbrev pub Differ : List (List ℕ) → Type 0
Differ names = AllPairs (λ a b. a ≢ b) names

pub differ_left : (xs ys : List (List ℕ)) → Differ (xs ++ ys) → Differ xs
differ_left xs ys all i j d l m same = all i j d l (omega (arith, m, length-append xs ys)) (get_or_append_left xs ys d i (omega (arith, l, m)) ∙ same ∙ sym (get_or_append_left xs ys d j m))

pub differ_right : (xs ys : List (List ℕ)) → Differ (xs ++ ys) → Differ ys
differ_right xs ys all i j d l m same = all (length xs + i) (length xs + j) d (omega (arith, l)) (omega (arith, m, length-append xs ys)) (get_right xs ys i d ∙ same ∙ sym (get_right xs ys j d))

differ_tail : (x : List ℕ) (xs : List (List ℕ)) → Differ (x ∷ xs) → Differ xs
differ_tail x xs all i j d l m = all (suc i) (suc j) d (omega (arith, l)) (omega (arith, m))

pub differ_apart : (xs ys : Outputs) → Differ (names_of xs ++ names_of ys) → Apart xs ys
differ_apart [] ys all name = inl refl
differ_apart (x ∷ xs) ys all name = either (bytes_eq x.0 name) refl (differ_apart xs ys (differ_tail x.0 (names_of xs ++ names_of ys) all) name)
  where
    either : (b : Bool) → bytes_eq x.0 name ≡ b → (text_for xs name ≡ None) ⊎ (text_for ys name ≡ None) → (cond b (Some x.1) (text_for xs name) ≡ None) ⊎ (text_for ys name ≡ None)
    either false is rest = rest
    either true is rest = inr (text_for-unnamed ys name (not_among (names_of ys) name (λ k d l same.
        all 0 (suc (length (names_of xs) + k)) d (omega arith) (omega (arith, l, length-append (names_of xs) (names_of ys)))
        ((bytes_eq-Decides x.0 name).0 is ∙ sym same ∙ sym (get_right (names_of xs) (names_of ys) k d)))))

-- new names differ
new_at : (seen names : List (List ℕ)) (i : ℕ) (d : List ℕ) → AllNew seen names → i < length names → among (seen ++ take i names) (get_or names i d) ≡ false
new_at seen [] i d new within = absurd (omega arith)
new_at seen (name ∷ names) zero d new within = ap (λ ns. among ns name) (append-nil seen) ∙ new.0
new_at seen (name ∷ names) (suc i) d new within = ap (λ ns. among ns (get_or names i d)) (sym (append_assoc seen (name ∷ []) (take i names))) ∙ new_at (seen ++ name ∷ []) names i d new.1 (omega arith)

pub new_differ : (names : List (List ℕ)) → AllNew [] names → Differ names
new_differ names new i j d l m same =
    let many : length (take j names) ≡ j = length-take-le j names (omega (arith, m)) in
    let there : among (take j names) (get_or names j d) ≡ true = list_any_at (λ known. bytes_eq known (get_or names j d)) (take j names) i d (omega (arith, l, many))
    ((bytes_eq-Decides (get_or (take j names) i d) (get_or names j d)).1 (get_or-take j names i d l ∙ same)) in
    let both : true ≡ false = sym there ∙ new_at [] names j d new m in cc
