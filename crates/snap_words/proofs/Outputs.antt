-- The names of the files that are to be written: whether two are one.
use Rattle.std.proofs.Common.{◌≡◌, ◌<◌, ◌+◌, ℕ, List, [], ◌∷◌, ◌++◌, Bool, true, false, refl, sym, ◌∙◌, ap, ap₂, append-nil, take, drop, get_or, length, map}
use Rattle.std.specs.Prelude.{◌≢◌, ◌||◌, bytes_eq, codes}
use Rattle.std.specs.Borrow.{Bor}
use Rattle.std.specs.List.{list_all, list_any}
use Rattle.std.proofs.lemmas.List.{append_cancel_right, map-append, take-append-drop, take_more}
use Rattle.std.proofs.lemmas.List.Folds.{list_all-map, list_any-append}
use Rattle.std.proofs.lemmas.Slice.Eq.{bytes_eq-Decides}
use Rattle.snap_text.specs.Names.{is_file}
use Rattle.snap_words.specs.Outputs.{has_twice, reply_name}

-- two tests of which each leads to the other
pub same_test : (a b : Bool) → (a ≡ true → b ≡ true) → (b ≡ true → a ≡ true) → a ≡ b
same_test true true there back = refl
same_test true false there back = sym (there refl)
same_test false true there back = back refl
same_test false false there back = refl

bytes_eq-comm : (a b : List ℕ) → bytes_eq a b ≡ bytes_eq b a
bytes_eq-comm a b =
    let one = bytes_eq-Decides a b in
    let other = bytes_eq-Decides b a in
    same_test _ _ (λ is. other.1 (sym (one.0 is))) (λ is. one.1 (sym (other.0 is)))

-- the same ending is no difference
pub bytes_eq-reply_name : (a b : List ℕ) → bytes_eq (reply_name a) (reply_name b) ≡ bytes_eq a b
bytes_eq-reply_name a b =
    let long = bytes_eq-Decides (reply_name a) (reply_name b) in
    let short = bytes_eq-Decides a b in
    same_test _ _ (λ is. short.1 (append_cancel_right a b (codes ".out") (long.0 is))) (λ is. long.1 (ap reply_name (short.0 is)))

pub any-reply_name : (name : List ℕ) (names : List (List ℕ)) → list_any (bytes_eq (reply_name name)) (map reply_name names) ≡ list_any (bytes_eq name) names
any-reply_name name [] = refl
any-reply_name name (other ∷ names) = ap₂ (λ (a b : Bool). a || b) (bytes_eq-reply_name name other) (any-reply_name name names)

pub has_twice-reply_name : (names : List (List ℕ)) → has_twice (map reply_name names) ≡ has_twice names
has_twice-reply_name [] = refl
has_twice-reply_name (name ∷ names) = ap₂ (λ (a b : Bool). a || b) (any-reply_name name names) (has_twice-reply_name names)

-- one name more
shuffled : (a b c d : Bool) → ((a || b) || (c || d)) ≡ ((a || c) || (b || d))
shuffled true b c d = refl
shuffled false true true d = refl
shuffled false true false d = refl
shuffled false false c d = refl

or_false : (a : Bool) → (a || false) ≡ a
or_false true = refl
or_false false = refl

pub has_twice-push : (names : List (List ℕ)) (name : List ℕ) → has_twice (names ++ name ∷ []) ≡ (has_twice names || list_any (bytes_eq name) names)
has_twice-push [] name = refl
has_twice-push (first ∷ names) name =
    let among : list_any (bytes_eq first) (names ++ name ∷ []) ≡ (list_any (bytes_eq first) names || bytes_eq name first)
    = list_any-append (bytes_eq first) names (name ∷ []) ∙ ap (λ (b : Bool). list_any (bytes_eq first) names || b) (or_false (bytes_eq first name) ∙ bytes_eq-comm first name) in
    ap₂ (λ (a b : Bool). a || b) among (has_twice-push names name)
    ∙ shuffled (list_any (bytes_eq first) names) (bytes_eq name first) (has_twice names) (list_any (bytes_eq name) names)

-- a name that stands twice does so in each longer list
pub has_twice-append : (names more : List (List ℕ)) → has_twice names ≡ true → has_twice (names ++ more) ≡ true
has_twice-append [] more twice = absurd cc
has_twice-append (first ∷ names) more twice =
    either (list_any (bytes_eq first) names) (list_any (bytes_eq first) more) _ _ _ (list_any-append (bytes_eq first) names more) (λ is. has_twice-append names more is) twice
  where
    or_true : (a b : Bool) → b ≡ true → (a || b) ≡ true
    or_true true b is = refl
    or_true false b is = is

    either : (here more both had has : Bool) → both ≡ (here || more) → (had ≡ true → has ≡ true) → (here || had) ≡ true → (both || has) ≡ true
    either true more both had has is rest twice = ap (λ (b : Bool). b || has) is
    either false more both had has is rest twice = or_true both has (rest twice)

-- names that are lent, by their texts
abbrev pub Lent : Type 0
Lent = Bor (List ℕ)

abbrev pub texts : List Lent → List (List ℕ)
texts names = map (λ (name : Lent). name.now) names

pub any-texts : (name : List ℕ) (names : List Lent) → list_any (λ (other : Lent). bytes_eq other.now name) names ≡ list_any (bytes_eq name) (texts names)
any-texts name [] = refl
any-texts name (other ∷ names) = ap₂ (λ (a b : Bool). a || b) (bytes_eq-comm other.now name) (any-texts name names)

-- one name more decides whether a name stands twice
pub twice_further : (names : List Lent) (i : ℕ) (d : Lent) (text : List ℕ) (among : Bool) → i < length names → text ≡ (get_or names i d).now → among ≡ list_any (λ (other : Lent). bytes_eq other.now text) (take i names)
    → has_twice (texts (take i names)) ≡ false → has_twice (texts (take (i + 1) names)) ≡ among
twice_further names i d text among within is told none =
    ap (λ (l : List Lent). has_twice (texts l)) (take_more names i d within)
    ∙ ap has_twice (map-append (λ (other : Lent). other.now) (take i names) (get_or names i d ∷ []))
    ∙ ap (λ (t : List ℕ). has_twice (texts (take i names) ++ t ∷ [])) (sym is)
    ∙ has_twice-push (texts (take i names)) text
    ∙ ap (λ (b : Bool). b || list_any (bytes_eq text) (texts (take i names))) none
    ∙ sym (any-texts text (take i names)) ∙ sym told

pub twice_whole : (names : List Lent) (i : ℕ) → has_twice (texts (take i names)) ≡ true → has_twice (texts names) ≡ true
twice_whole names i twice =
    ap (λ (l : List Lent). has_twice (texts l)) (sym (take-append-drop i names))
    ∙ ap has_twice (map-append (λ (other : Lent). other.now) (take i names) (drop i names))
    ∙ has_twice-append (texts (take i names)) (texts (drop i names)) twice

-- a name is that of a reply file of one of the scripts
pub reply_among : (name script : List ℕ) (scripts : List Lent) → name ≡ reply_name script → list_any (bytes_eq name) (map reply_name (texts scripts)) ≡ list_any (λ (other : Lent). bytes_eq other.now script) scripts
reply_among name script scripts is =
    ap (λ (n : List ℕ). list_any (bytes_eq n) (map reply_name (texts scripts))) is
    ∙ any-reply_name script (texts scripts) ∙ sym (any-texts script scripts)

pub no_reply_among : (name : List ℕ) (scripts : List (List ℕ)) → ((script : List ℕ) → name ≢ reply_name script) → list_any (bytes_eq name) (map reply_name scripts) ≡ false
no_reply_among name [] none = refl
no_reply_among name (script ∷ scripts) none = ap₂ (λ (a b : Bool). a || b) differs (no_reply_among name scripts none)
  where
    differs : bytes_eq name (reply_name script) ≡ false
    differs = same_test _ false (λ is. absurd (none script ((bytes_eq-Decides name (reply_name script)).0 is))) (λ is. absurd cc)

-- the outputs with the final file, and without one
pub outputs_with : (scripts : List (List ℕ)) (last : List ℕ) → has_twice (map reply_name scripts ++ last ∷ []) ≡ (has_twice scripts || list_any (bytes_eq last) (map reply_name scripts))
outputs_with scripts last = has_twice-push (map reply_name scripts) last ∙ ap (λ (b : Bool). b || list_any (bytes_eq last) (map reply_name scripts)) (has_twice-reply_name scripts)

pub outputs_without : (scripts : List (List ℕ)) → has_twice (map reply_name scripts ++ []) ≡ has_twice scripts
outputs_without scripts = ap has_twice (append-nil (map reply_name scripts)) ∙ has_twice-reply_name scripts

-- each name is a file name
pub files_of : (names : List Lent) → list_all is_file (texts names) ≡ list_all (λ (name : Lent). is_file name.now) names
files_of names = list_all-map is_file (λ (name : Lent). name.now) names
