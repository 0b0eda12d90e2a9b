-- What was written, from what each write did.
use Rattle.std.proofs.Common.{◌≡◌, ◌≢◌, ◌⊎◌, ◌<◌, ◌+◌, suc, zero, ℕ, Bool, true, false, cond, List, [], ◌∷◌, ◌++◌, length, get_or, take, drop, Option, Some, None, Result, Ok, Err, refl, sym, ◌∙◌, ap, subst, inl, inr, append_assoc, arith}
use Rattle.std.specs.Prelude.{◌||◌, AllPairs, bytes_eq, OnErr}
use Rattle.std.specs.Option.{option_map, option_or}
use Rattle.std.proofs.Math.Seq.{take-length}
use Rattle.std.proofs.lemmas.List.{drop_more, get_or-take, length-take-le, map-append, take-append-drop, take_more}
use Rattle.std.proofs.lemmas.Slice.Eq.{bytes_eq-Decides}
use Rattle.snap_io.specs.Shelves.{Files, IfTold, Changes}
use Rattle.snap_write.specs.Outputs.{HasBegun, HasFront, HasWritten, Outputs, blank, is_named, names_of, text_for}

pub names_of-append : (xs ys : Outputs) → names_of (xs ++ ys) ≡ names_of xs ++ names_of ys
names_of-append xs ys = map-append (λ output. output.0) xs ys

-- the texts of files in two lists
pub text_for-append : (xs ys : Outputs) (name : List ℕ) → text_for (xs ++ ys) name ≡ option_or (text_for xs name) (text_for ys name)
text_for-append [] ys name = refl
text_for-append (x ∷ xs) ys name = either (bytes_eq x.0 name) (text_for-append xs ys name)
  where
    either : (b : Bool) → text_for (xs ++ ys) name ≡ option_or (text_for xs name) (text_for ys name) → cond b (Some x.1) (text_for (xs ++ ys) name) ≡ option_or (cond b (Some x.1) (text_for xs name)) (text_for ys name)
    either true below = refl
    either false below = below

-- a file that isn't named has no text
pub text_for-unnamed : (xs : Outputs) (name : List ℕ) → is_named (names_of xs) name ≡ false → text_for xs name ≡ None
text_for-unnamed [] name is = refl
text_for-unnamed (x ∷ xs) name is = either (bytes_eq x.0 name) is (λ rest. text_for-unnamed xs name rest)
  where
    either : (b : Bool) → (b || is_named (names_of xs) name) ≡ false → (is_named (names_of xs) name ≡ false → text_for xs name ≡ None) → cond b (Some x.1) (text_for xs name) ≡ None
    either true is below = absurd cc
    either false is below = below is

-- no file is in both lists
abbrev pub Apart : Outputs → Outputs → Type 0
Apart xs ys = (name : List ℕ) → (text_for xs name ≡ None) ⊎ (text_for ys name ≡ None)

pub apart_last : (xs : Outputs) (y : List ℕ × List ℕ) → is_named (names_of xs) y.0 ≡ false → Apart xs (y ∷ [])
apart_last xs y is name = either (bytes_eq y.0 name) refl
  where
    either : (b : Bool) → bytes_eq y.0 name ≡ b → (text_for xs name ≡ None) ⊎ (cond b (Some y.1) None ≡ None)
    either true here = inl (text_for-unnamed xs name (ap (λ n. is_named (names_of xs) n) (sym ((bytes_eq-Decides y.0 name).0 here)) ∙ is))
    either false away = inr refl

-- what was written after what
pub after_written : (xs ys : Outputs) (f g h : Files) → Apart xs ys → HasWritten xs f g → HasWritten ys g h → HasWritten (xs ++ ys) f h
after_written xs ys f g h apart first next name =
    next name ∙ ap (option_or (text_for ys name)) (first name) ∙ join (text_for xs name) (text_for ys name) (apart name) ∙ ap (λ o. option_or o (f name)) (sym (text_for-append xs ys name))
  where
    join : (a b : Option (List ℕ)) → (a ≡ None) ⊎ (b ≡ None) → option_or b (option_or a (f name)) ≡ option_or (option_or a b) (f name)
    join None None one = refl
    join None (Some t) one = refl
    join (Some t) None one = refl
    join (Some t) (Some u) (inl is) = absurd cc
    join (Some t) (Some u) (inr is) = absurd cc

pub begun_after : (xs ys : Outputs) (f g h : Files) → Apart xs ys → HasWritten xs f g → HasBegun ys g h → HasBegun (xs ++ ys) f h
begun_after xs ys f g h apart first next name =
    subst (λ o. (h name ≡ f name) ⊎ HasFront o (h name)) (sym (text_for-append xs ys name)) (join (text_for xs name) (text_for ys name) (apart name) (first name) (next name))
  where
    join : (a b : Option (List ℕ)) → (a ≡ None) ⊎ (b ≡ None) → g name ≡ option_or a (f name) → (h name ≡ g name) ⊎ HasFront b (h name) → (h name ≡ f name) ⊎ HasFront (option_or a b) (h name)
    join None b one was (inl same) = inl (same ∙ was)
    join None b one was (inr front) = inr front
    join (Some t) b one was (inl same) = inr (length t, same ∙ was ∙ ap Some (sym (take-length t)))
    join (Some t) None one was (inr front) = absurd front
    join (Some t) (Some u) (inl is) was (inr front) = absurd cc
    join (Some t) (Some u) (inr is) was (inr front) = absurd cc

-- what was begun, with more that was to be written
pub begun_more : (xs ys : Outputs) (f h : Files) → HasBegun xs f h → HasBegun (xs ++ ys) f h
begun_more xs ys f h begun name = subst (λ o. (h name ≡ f name) ⊎ HasFront o (h name)) (sym (text_for-append xs ys name)) (join (text_for xs name) (text_for ys name) (begun name))
  where
    join : (a b : Option (List ℕ)) → (h name ≡ f name) ⊎ HasFront a (h name) → (h name ≡ f name) ⊎ HasFront (option_or a b) (h name)
    join a b (inl same) = inl same
    join None b (inr front) = absurd front
    join (Some t) b (inr front) = inr front

-- one change after another, where the files are told
pub changes_after : (P Q R : Files → Files → Type 0) → ((f g h : Files) → P f g → Q g h → R f h) → (old mid new : Option Files) → Changes old mid P → Changes mid new Q → Changes old new R
changes_after P Q R step None None None first next = tt
changes_after P Q R step None None (Some h) first next = absurd next
changes_after P Q R step None (Some g) new first next = absurd first
changes_after P Q R step (Some f) None new first next = absurd first
changes_after P Q R step (Some f) (Some g) None first next = absurd next
changes_after P Q R step (Some f) (Some g) (Some h) first next = step f g h first next

pub changes_as : (P Q : Files → Files → Type 0) → ((f g : Files) → P f g → Q f g) → (old new : Option Files) → Changes old new P → Changes old new Q
changes_as P Q step None None change = tt
changes_as P Q step None (Some g) change = absurd change
changes_as P Q step (Some f) None change = absurd change
changes_as P Q step (Some f) (Some g) change = step f g change

-- the same where something is known of the files before
pub changes_from : (P Q : Files → Files → Type 0) (K : Files → Type 0) → ((f g : Files) → K f → P f g → Q f g) → (old new : Option Files) → IfTold old K → Changes old new P → Changes old new Q
changes_from P Q K step None None known change = tt
changes_from P Q K step None (Some g) known change = absurd change
changes_from P Q K step (Some f) None known change = absurd change
changes_from P Q K step (Some f) (Some g) known change = step f g known change

-- and where something is to be known of those after
pub told_after : (P : Files → Files → Type 0) (K L : Files → Type 0) → ((f g : Files) → K f → P f g → L g) → (old new : Option Files) → IfTold old K → Changes old new P → IfTold new L
told_after P K L step None None known change = tt
told_after P K L step None (Some g) known change = absurd change
told_after P K L step (Some f) None known change = absurd change
told_after P K L step (Some f) (Some g) known change = step f g known change

pub nothing_written : (old : Option Files) → Changes old old (HasWritten [])
nothing_written None = tt
nothing_written (Some f) = λ name. refl

pub nothing_begun : (outputs : Outputs) (old : Option Files) → Changes old old (HasBegun outputs)
nothing_begun outputs None = tt
nothing_begun outputs (Some f) = λ name. inl refl

-- empty files that then get their texts
pub blank_for : (ys : Outputs) (name : List ℕ) → text_for (blank (names_of ys)) name ≡ option_map (λ _. []) (text_for ys name)
blank_for [] name = refl
blank_for (y ∷ ys) name = either (bytes_eq y.0 name) (blank_for ys name)
  where
    either : (b : Bool) → text_for (blank (names_of ys)) name ≡ option_map (λ _. []) (text_for ys name) → cond b (Some []) (text_for (blank (names_of ys)) name) ≡ option_map (λ _. []) (cond b (Some y.1) (text_for ys name))
    either true below = refl
    either false below = below

pub written_over : (ys : Outputs) (f g h : Files) → HasWritten (blank (names_of ys)) f g → HasWritten ys g h → HasWritten ys f h
written_over ys f g h first next name = join (text_for ys name) (first name ∙ ap (λ o. option_or o (f name)) (blank_for ys name)) (next name)
  where
    join : (o : Option (List ℕ)) → g name ≡ option_or (option_map (λ _. []) o) (f name) → h name ≡ option_or o (g name) → h name ≡ option_or o (f name)
    join None was is = is ∙ was
    join (Some t) was is = is

pub begun_over : (ys : Outputs) (f g h : Files) → HasWritten (blank (names_of ys)) f g → HasBegun ys g h → HasBegun ys f h
begun_over ys f g h first next name = join (text_for ys name) (first name ∙ ap (λ o. option_or o (f name)) (blank_for ys name)) (next name)
  where
    join : (o : Option (List ℕ)) → g name ≡ option_or (option_map (λ _. []) o) (f name) → (h name ≡ g name) ⊎ HasFront o (h name) → (h name ≡ f name) ⊎ HasFront o (h name)
    join None was (inl same) = inl (same ∙ was)
    join (Some t) was (inl same) = inr (0, same ∙ was)
    join o was (inr front) = inr front

no_part : (n : ℕ) → take {A = ℕ} n [] ≡ []
no_part zero = refl
no_part (suc n) = refl

-- where empty files were begun, or written alone, the files were begun
pub begun_blank : (ys : Outputs) (f g : Files) → HasBegun (blank (names_of ys)) f g → HasBegun ys f g
begun_blank ys f g begun name = join (text_for ys name) (subst (λ o. (g name ≡ f name) ⊎ HasFront o (g name)) (blank_for ys name) (begun name))
  where
    join : (o : Option (List ℕ)) → (g name ≡ f name) ⊎ HasFront (option_map (λ _. []) o) (g name) → (g name ≡ f name) ⊎ HasFront o (g name)
    join o (inl same) = inl same
    join None (inr front) = absurd front
    join (Some t) (inr front) = inr (0, front.1 ∙ ap Some (no_part front.0))

pub whole_begun : (ys : Outputs) (f g : Files) → HasWritten ys f g → HasBegun ys f g
whole_begun ys f g written name = join (text_for ys name) (written name)
  where
    join : (o : Option (List ℕ)) → g name ≡ option_or o (f name) → (g name ≡ f name) ⊎ HasFront o (g name)
    join None is = inl is
    join (Some t) is = inr (length t, is ∙ ap Some (sym (take-length t)))

-- a file that isn't written stays
pub stays : (xs : Outputs) (name : List ℕ) (f g : Files) → is_named (names_of xs) name ≡ false → HasWritten xs f g → g name ≡ f name
stays xs name f g is written = written name ∙ ap (λ o. option_or o (f name)) (text_for-unnamed xs name is)

-- names that all differ: each of them is none of those before it
pub not_among : (names : List (List ℕ)) (n : List ℕ) → ((k : ℕ) (d : List ℕ) → k < length names → get_or names k d ≢ n) → is_named names n ≡ false
not_among [] n all = refl
not_among (x ∷ names) n all = either (bytes_eq x n) refl (not_among names n (λ k d l. all (suc k) d (omega (arith, l))))
  where
    either : (b : Bool) → bytes_eq x n ≡ b → is_named names n ≡ false → (b || is_named names n) ≡ false
    either true is rest = absurd (all 0 n (omega arith) ((bytes_eq-Decides x n).0 is))
    either false is rest = rest

names-take : (xs : Outputs) (i : ℕ) → take i (names_of xs) ≡ names_of (take i xs)
names-take [] zero = refl
names-take [] (suc i) = refl
names-take (x ∷ xs) zero = refl
names-take (x ∷ xs) (suc i) = ap (λ ns. x.0 ∷ ns) (names-take xs i)

pub names-at : (xs : Outputs) (i : ℕ) (d : List ℕ × List ℕ) → get_or (names_of xs) i d.0 ≡ (get_or xs i d).0
names-at [] i d = refl
names-at (x ∷ xs) zero d = refl
names-at (x ∷ xs) (suc i) d = names-at xs i d

pub names-length : (xs : Outputs) → length (names_of xs) ≡ length xs
names-length [] = refl
names-length (x ∷ xs) = ap (λ n. suc n) (names-length xs)

pub new_here : (xs : Outputs) (i : ℕ) (x : List ℕ × List ℕ) → AllPairs (λ a b. a ≢ b) (names_of xs) → i < length xs → x ≡ get_or xs i x → is_named (names_of (take i xs)) x.0 ≡ false
new_here xs i x all within is =
    ap (λ ns. is_named ns x.0) (sym (names-take xs i))
    ∙ not_among (take i (names_of xs)) x.0 (λ k d l same.
    let many : length (take i (names_of xs)) ≡ i = length-take-le i (names_of xs) (omega (arith, within, names-length xs)) in
    let at : get_or (names_of xs) k d ≡ get_or (names_of xs) i d = sym (get_or-take i (names_of xs) k d (omega (arith, l, many))) ∙ same ∙ ap (λ (y : List ℕ × List ℕ). y.0) is ∙ sym (names-at xs i x) ∙ other (names_of xs) i x.0 d (omega (arith, within, names-length xs)) in
    all k i d (omega (arith, l, many)) (omega (arith, within, names-length xs)) at)
  where
    other : (ns : List (List ℕ)) (i : ℕ) (d e : List ℕ) → i < length ns → get_or ns i d ≡ get_or ns i e
    other [] i d e l = absurd (omega (arith, l))
    other (n ∷ ns) zero d e l = refl
    other (n ∷ ns) (suc i) d e l = other ns i d e (omega (arith, l))

-- one file more
pub one_more : (xs : Outputs) (i : ℕ) (x : List ℕ × List ℕ) (old mid new : Option Files) → AllPairs (λ a b. a ≢ b) (names_of xs) → i < length xs → x ≡ get_or xs i x
    → Changes old mid (HasWritten (take i xs)) → Changes mid new (HasWritten (x ∷ [])) → Changes old new (HasWritten (take (i + 1) xs))
one_more xs i x old mid new all within is written next =
    let more : take (i + 1) xs ≡ take i xs ++ x ∷ [] = take_more xs i x within ∙ ap (λ o. take i xs ++ o ∷ []) (sym is) in
    subst (λ os. Changes old new (HasWritten os)) (sym more)
    (changes_after (HasWritten (take i xs)) (HasWritten (x ∷ [])) (HasWritten (take i xs ++ x ∷ [])) (λ f g h. after_written (take i xs) (x ∷ []) f g h (apart_last (take i xs) x (new_here xs i x all within is))) old mid new written next)

-- a write that was cut off among them
pub begun_here : (xs : Outputs) (i : ℕ) (x : List ℕ × List ℕ) (old mid new : Option Files) → AllPairs (λ a b. a ≢ b) (names_of xs) → i < length xs → x ≡ get_or xs i x
    → Changes old mid (HasWritten (take i xs)) → Changes mid new (HasBegun (x ∷ [])) → Changes old new (HasBegun xs)
begun_here xs i x old mid new all within is written begun =
    let whole : (take i xs ++ x ∷ []) ++ drop (i + 1) xs ≡ xs =
    append_assoc (take i xs) (x ∷ []) (drop (i + 1) xs) ∙ ap (λ y. take i xs ++ y ∷ drop (i + 1) xs) is
    ∙ ap (λ ys. take i xs ++ ys) (sym (drop_more xs i x within)) ∙ take-append-drop i xs in
    subst (λ os. Changes old new (HasBegun os)) whole
    (changes_after (HasWritten (take i xs)) (HasBegun (x ∷ [])) (HasBegun ((take i xs ++ x ∷ []) ++ drop (i + 1) xs))
    (λ f g h first next. begun_more (take i xs ++ x ∷ []) (drop (i + 1) xs) f h (begun_after (take i xs) (x ∷ []) f g h (apart_last (take i xs) x (new_here xs i x all within is)) first next))
    old mid new written begun)

pub on_err : {T E : Type 0} (P : Type 0) (r : Result T E) → P → OnErr r P
on_err P (Ok x) p = tt
on_err P (Err e) p = p

pub blank_names : (names : List (List ℕ)) → names_of (blank names) ≡ names
blank_names [] = refl
blank_names (n ∷ names) = ap (λ ns. n ∷ ns) (blank_names names)

-- the empty file at a place
pub blank_within : (names : List (List ℕ)) (i : ℕ) → i < length names → i < length (blank names)
blank_within [] i l = absurd (omega (arith, l))
blank_within (n ∷ names) zero l = omega arith
blank_within (n ∷ names) (suc i) l = omega (arith, blank_within names i (omega (arith, l)))

pub blank_at : (names : List (List ℕ)) (i : ℕ) (name : List ℕ) → i < length names → name ≡ get_or names i name → (name, []) ≡ get_or (blank names) i (name, [])
blank_at [] i name l is = absurd (omega (arith, l))
blank_at (n ∷ names) zero name l is = ap (λ (x : List ℕ). (x, [])) is
blank_at (n ∷ names) (suc i) name l is = blank_at names i name (omega (arith, l)) is

pub blank_apart : (names : List (List ℕ)) → AllPairs (λ a b. a ≢ b) names → AllPairs (λ a b. a ≢ b) (names_of (blank names))
blank_apart names all = subst (λ (ns : List (List ℕ)). AllPairs (λ a b. a ≢ b) ns) (sym (blank_names names)) all
