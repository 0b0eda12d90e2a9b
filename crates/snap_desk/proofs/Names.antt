-- The names of the workers' files: each worker's are among them all, and no two are the same.
use Rattle.std.proofs.Common.{zero, suc, ◌≡◌, ◌≢◌, ◌<◌, ◌+◌, ◌++◌, ◌||◌, ℕ, Bool, true, false, List, [], ◌∷◌, Some, None, length, get_or, refl, ap, sym, ◌∙◌, subst, arith, length-append}
use Rattle.std.specs.Prelude.{AllPairs, bytes_eq}
use Rattle.std.proofs.lemmas.List.Folds.{list_any-append}
use Rattle.std.proofs.lemmas.Slice.Eq.{bytes_eq-Decides}
use Rattle.std.proofs.lemmas.List.{get_or-append-add, get_or_append_left}
use Rattle.snap_desk.specs.Answers.{exported_file}
use Rattle.snap_desk.specs.Puts.{AreIn, AreOthers}
use Rattle.snap_model.specs.declared.command.Command.{Command}
use Rattle.snap_model.specs.declared.command.Command.TheVariants as command
use Rattle.snap_write.proofs.Causes.{same_name}
use Rattle.snap_write.specs.Outputs.{is_named, names_of}
use Rattle.snap_desk.specs.Files.{all_files_named, AllIn, AllOthers, AreFilesApart, files_named}

pub or_false : (b : Bool) → (b || false) ≡ b
or_false true = refl
or_false false = refl

or_true : (b : Bool) → (b || true) ≡ true
or_true true = refl
or_true false = refl

pub or_left : (a b : Bool) → a ≡ true → (a || b) ≡ true
or_left a b is = ap (λ (x : Bool). x || b) is

pub or_right : (a b : Bool) → b ≡ true → (a || b) ≡ true
or_right a b is = ap (λ (x : Bool). a || x) is ∙ or_true a

pub among_left : (xs ys : List (List ℕ)) (n : List ℕ) → is_named xs n ≡ true → is_named (xs ++ ys) n ≡ true
among_left xs ys n is = list_any-append (λ known. bytes_eq known n) xs ys ∙ or_left (is_named xs n) (is_named ys n) is

pub among_right : (xs ys : List (List ℕ)) (n : List ℕ) → is_named ys n ≡ true → is_named (xs ++ ys) n ≡ true
among_right xs ys n is = list_any-append (λ known. bytes_eq known n) xs ys ∙ or_right (is_named xs n) (is_named ys n) is

pub among_at : (xs : List (List ℕ)) (i : ℕ) (d : List ℕ) → i < length xs → is_named xs (get_or xs i d) ≡ true
among_at [] i d l = absurd (omega (arith, l))
among_at (x ∷ xs) zero d l = or_left (bytes_eq x x) (is_named xs x) (same_name x)
among_at (x ∷ xs) (suc i) d l = or_right (bytes_eq x (get_or xs i d)) (is_named xs (get_or xs i d)) (among_at xs i d (omega (arith, l)))

-- something that a list has
pub some_of : {X : Type 0} (xs : List X) (i : ℕ) → i < length xs → X
some_of [] i l = absurd (omega (arith, l))
some_of (x ∷ xs) i l = x

-- where a name that is among these stands
pub record StandsAt (xs : List (List ℕ)) (n : List ℕ) : Type 0 where
  pub place : ℕ
  pub within : place < length xs
  pub is : (d : List ℕ) → get_or xs place d ≡ n

pub stands : (xs : List (List ℕ)) (n : List ℕ) → is_named xs n ≡ true → StandsAt xs n
stands [] n is = absurd cc
stands (x ∷ xs) n is = either (bytes_eq x n) refl is (λ rest. stands xs n rest)
  where
    later : StandsAt xs n → StandsAt (x ∷ xs) n
    later h = record { place = suc h.place; within = omega (arith, h.within); is = λ d. h.is d }

    either : (b : Bool) → bytes_eq x n ≡ b → (b || is_named xs n) ≡ true → (is_named xs n ≡ true → StandsAt xs n) → StandsAt (x ∷ xs) n
    either true here is below = record { place = 0; within = omega arith; is = λ d. (bytes_eq-Decides x n).0 here }
    either false here is below = later (below is)

-- names of two lists in which no two are the same are apart
pub apart : (xs ys : List (List ℕ)) (n : List ℕ) → AllPairs (λ a b. a ≢ b) (xs ++ ys) → is_named ys n ≡ true → is_named xs n ≡ false
apart xs ys n differ is = either (is_named xs n) refl
  where
    clash : StandsAt xs n → StandsAt ys n → ⊥
    clash h k =
        let l : h.place < length (xs ++ ys) = omega (arith, h.within, length-append xs ys) in
        let m : length xs + k.place < length (xs ++ ys) = omega (arith, k.within, length-append xs ys) in
        differ h.place (length xs + k.place) n (omega (arith, h.within)) m
        (get_or_append_left xs ys n h.place h.within ∙ h.is n ∙ sym (k.is n) ∙ sym (get_or-append-add xs ys k.place n))

    either : (b : Bool) → is_named xs n ≡ b → is_named xs n ≡ false
    either false e = e
    either true e = absurd (clash (stands xs n e) (stands ys n is))

-- the exports of one script are among those of all
pub named_among : (scripts : List (List Command)) (i : ℕ) (d : List Command) (n : List ℕ) → i < length scripts → is_named (files_named (get_or scripts i d)) n ≡ true → is_named (all_files_named scripts) n ≡ true
named_among [] i d n l is = absurd (omega (arith, l))
named_among (s ∷ scripts) zero d n l is = among_left (files_named s) (all_files_named scripts) n is
named_among (s ∷ scripts) (suc i) d n l is = among_right (files_named s) (all_files_named scripts) n (named_among scripts i d n (omega (arith, l)) is)

-- the same by commands
one_in : (names : List (List ℕ)) (c : Command) → ((n : List ℕ) → is_named (names_of (exported_file c [])) n ≡ true → is_named names n ≡ true) → AreIn names (exported_file c [])
one_in names (command.Export slot lo hi file) h = (h file (or_left (bytes_eq file file) false (same_name file)), tt)
one_in names _ h = tt

pub all_in : (names : List (List ℕ)) (cs : List Command) → ((n : List ℕ) → is_named (files_named cs) n ≡ true → is_named names n ≡ true) → AllIn names cs
all_in names [] h = tt
all_in names (c ∷ cs) h = (
  one_in names c (λ n is. h n (among_left (names_of (exported_file c [])) (files_named cs) n is)),
  all_in names cs (λ n is. h n (among_right (names_of (exported_file c [])) (files_named cs) n is)),
)

one_other : (name : List ℕ) (c : Command) → ((n : List ℕ) → is_named (names_of (exported_file c [])) n ≡ true → bytes_eq n name ≡ false) → AreOthers (Some name) (exported_file c [])
one_other name (command.Export slot lo hi file) h = (h file (or_left (bytes_eq file file) false (same_name file)), tt)
one_other name _ h = tt

pub all_others : (name : List ℕ) (cs : List Command) → ((n : List ℕ) → is_named (files_named cs) n ≡ true → bytes_eq n name ≡ false) → AllOthers (Some name) cs
all_others name [] h = tt
all_others name (c ∷ cs) h = (
  one_other name c (λ n is. h n (among_left (names_of (exported_file c [])) (files_named cs) n is)),
  all_others name cs (λ n is. h n (among_right (names_of (exported_file c [])) (files_named cs) n is)),
)

pub no_others : (cs : List Command) → AllOthers None cs
no_others [] = tt
no_others (c ∷ cs) = (tt, no_others cs)

-- a reply file is none of the exports
pub beside : (names : List (List ℕ)) (scripts : List (List Command)) (i : ℕ) (d : List ℕ) (n : List ℕ) → AreFilesApart names scripts → i < length names → is_named (all_files_named scripts) n ≡ true → bytes_eq n (get_or names i d) ≡ false
beside names scripts i d n h l is = either (bytes_eq n (get_or names i d)) refl
  where
    no : is_named names n ≡ true → ⊥
    no there = let out = apart names (all_files_named scripts) n h.differ is in absurd cc

    either : (b : Bool) → bytes_eq n (get_or names i d) ≡ b → bytes_eq n (get_or names i d) ≡ false
    either false e = e
    either true e = absurd (no (subst (λ (x : List ℕ). is_named names x ≡ true) (sym ((bytes_eq-Decides n (get_or names i d)).0 e)) (among_at names i d l)))
